-- What the tokens that the code has are.
use Rattle.std.specs.Prelude.{true, false}
use Rattle.stack.specs.Programs.{add, sub, mul, equal, unequal, above, at_least, below, at_most, both, any, sum, test, join, neg, abs, nay, Op, two, one, constant, pop, exch, dup}
use Rattle.symbols.specs.Tokens.{Token, opens, closes, if_t, ifelse_t, copy_t, index_t, roll_t, num_t, op_t, other}
use Rattle.symbols.specs.declared.types.Operator as O
use Rattle.symbols.specs.declared.types.Operator.TheVariants as V
use Rattle.symbols.specs.declared.types.Symbol as S
use Rattle.symbols.specs.declared.types.Symbol.TheVariants as T

abbrev pub op_of : O.Operator → Op
op_of V.Add = two (sum add)
op_of V.Sub = two (sum sub)
op_of V.Mul = two (sum mul)
op_of V.Eq = two (test equal)
op_of V.Ne = two (test unequal)
op_of V.Gt = two (test above)
op_of V.Ge = two (test at_least)
op_of V.Lt = two (test below)
op_of V.Le = two (test at_most)
op_of V.And = two (join both)
op_of V.Or = two (join any)
op_of V.Neg = one neg
op_of V.Abs = one abs
op_of V.Not = one nay
op_of V.True = constant true
op_of V.False = constant false
op_of V.Pop = pop
op_of V.Exch = exch
op_of V.Dup = dup

abbrev pub token_of : S.Symbol → Token
token_of T.Open = opens
token_of T.Close = closes
token_of T.If = if_t
token_of T.IfElse = ifelse_t
token_of T.Copy = copy_t
token_of T.Index = index_t
token_of T.Roll = roll_t
token_of (T.Number z) = num_t z
token_of (T.Operator o) = op_t (op_of o)
token_of T.Other = other
