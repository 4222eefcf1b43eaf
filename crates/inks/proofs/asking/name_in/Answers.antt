-- `name_in`: the name is on the page that `find` names, as long as the one asked for; each way returns its own part.
use mathlib.Core.Path.{refl}
use native.Mathlib.Omega.{arith}
use Rattle.ink_names.proofs.Parts.{job-room, job-part, house-room, house-part, no_part}
use Rattle.inks.proofs.asking.name_in.Goals as goal

pub name_part-requires : goal.name_part-requires
name_part-requires c =
    let a = c.args in
    job-room a.job a.house _ c.in-Ok.ensures c.in-Job.is

pub name_part-requires-in-House : goal.name_part-requires-in-House
name_part-requires-in-House c =
    let a = c.args in
    house-room a.job a.house _ c.in-Ok.ensures c.in-House.is

pub returns-in-Job : goal.returns-in-Job
returns-in-Job c =
    let a = c.args in
    job-part a.job a.house _ c.in-Ok.ensures c.in-Job.is _ c.name_part.ensures

pub returns-in-House : goal.returns-in-House
returns-in-House c =
    let a = c.args in
    house-part a.job a.house _ c.in-Ok.ensures c.in-House.is _ c.name_part-in-House.ensures

pub returns-in-Err : goal.returns-in-Err
returns-in-Err c =
    let a = c.args in
    no_part a.job a.house _ _ c.in-Err.ensures _ (record { bytes = refl; memory = refl; offset = omega arith })
