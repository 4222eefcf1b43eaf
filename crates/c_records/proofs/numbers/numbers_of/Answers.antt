-- Each kind has its numbers.
use Rattle.c_records.proofs.numbers.numbers_of.Goals as goal

pub returns-in-Free : goal.returns-in-Free
returns-in-Free c = rw c.in-Free.is c.bare_numbers.ensures

pub returns-in-CalGray : goal.returns-in-CalGray
returns-in-CalGray c = rw c.in-CalGray.is c.gray_numbers.ensures

pub returns-in-CalRgb : goal.returns-in-CalRgb
returns-in-CalRgb c = rw c.in-CalRgb.is c.rgb_numbers.ensures

pub returns-in-Lab : goal.returns-in-Lab
returns-in-Lab c = rw c.in-Lab.is c.lab_numbers.ensures

pub returns-in-Indexed : goal.returns-in-Indexed
returns-in-Indexed c = rw c.in-Indexed.is c.indexed_numbers.ensures

pub returns-in-Separation : goal.returns-in-Separation
returns-in-Separation c = rw c.in-Separation.is c.ink_numbers.ensures

pub returns-in-Palette : goal.returns-in-Palette
returns-in-Palette c = rw c.in-Palette.is c.bare_numbers-in-Palette.ensures

pub returns-in-Program : goal.returns-in-Program
returns-in-Program c = rw c.in-Program.is c.bare_numbers-in-Program.ensures

pub returns-in-DeviceN : goal.returns-in-DeviceN
returns-in-DeviceN c = rw c.in-DeviceN.is c.device_n_numbers.ensures
