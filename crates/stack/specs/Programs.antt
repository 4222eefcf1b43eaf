-- FORMAT.md, Programs, Meaning; clause 7.10.5: a calculator program as a tree, which is what the text between its outer
-- braces says. The operators stand in groups by the kinds that they take and give.
use Rattle.std.specs.Prelude.{Bool, ℤ}

-- of two numbers, a number
pub data Sum : Type 0 where
  add sub mul : Sum

-- of two numbers, a truth value: eq ne gt ge lt le
pub data Test : Type 0 where
  equal unequal above at_least below at_most : Test

-- of two truth values, a truth value: and, or
pub data Join : Type 0 where
  both any : Join

-- an operator of two operands
pub data Two : Type 0 where
  sum : Sum → Two
  test : Test → Two
  join : Join → Two

-- an operator of one operand: neg and abs of a number, not of a truth value
pub data One : Type 0 where
  neg abs nay : One

-- an operator, a number, true or false; copy, index and roll with the literal counts straight before them, which are not on the stack
pub data Op : Type 0 where
  number : ℤ → Op
  copy : ℤ → Op
  index : ℤ → Op
  roll : ℤ → ℤ → Op
  two : Two → Op
  one : One → Op
  constant : Bool → Op
  pop exch dup : Op

-- a program: nothing more; an operator, { b } if, or { a } { b } ifelse, and what follows it
pub data Code : Type 0 where
  done : Code
  act : Op → Code → Code
  when : Code → Code → Code
  either : Code → Code → Code → Code
