-- Each case of what `find` replies is a law.
use Rattle.std.proofs.Common.{arith, Ok, Err}
use Rattle.sktelbaan.proofs.Inks.{below, short, given-found, given-refused}
use Rattle.sktelbaan.proofs.sktelbaan_find_ink.Goals as goal

pub overflow_cast-from : goal.overflow_cast-from
overflow_cast-from c =
    let a = c.args in
    omega (arith, c.name_start-from.ensures, below a.job.now a.house.now a.name.now (Ok c.in-Ok.found) c.in-Ok.ensures)

pub overflow_cast-size : goal.overflow_cast-size
overflow_cast-size c =
    let a = c.args in
    omega (arith, short a.job.now a.house.now a.name.now c.in-Ok.found c.in-Ok.ensures)

pub on_page-requires : goal.on_page-requires
on_page-requires c =
    let a = c.args in
    below a.job.now a.house.now a.name.now (Ok c.in-Ok.found) c.in-Ok.ensures

pub no_ink-requires : goal.no_ink-requires
no_ink-requires c =
    let a = c.args in
    below a.job.now a.house.now a.name.now (Err c.in-Err.error) c.in-Err.ensures

pub returns-in-Ok : goal.returns-in-Ok
returns-in-Ok c =
    let a = c.args in
    let both = given-found a.job.now a.house.now a.name.now c.in-Ok.found c.in-Ok.ensures a.place.now c.name_start-from.ensures c.on_page.ensures c.halves.ensures in
    record { value = both.0; place_after = both.1 }

pub returns-in-Err : goal.returns-in-Err
returns-in-Err c =
    let a = c.args in
    let both = given-refused a.job.now a.house.now a.name.now c.in-Err.error a.place.now c.in-Err.ensures c.no_ink.ensures in
    record { value = both.0; place_after = both.1 }
