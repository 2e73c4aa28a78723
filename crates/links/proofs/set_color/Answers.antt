use Rattle.links.proofs.Writing.{is_set_color, parent_top, shade_bit}
use native.Mathlib.Omega.{arith}
use Rattle.std.proofs.Common.{rules}
use Rattle.links.proofs.set_color.Goals as goal

pub overflow_mul-pc : goal.overflow_mul-pc
overflow_mul-pc c =
    omega (arith, parent_top _ _ c.requires)

pub overflow_add-pc : goal.overflow_add-pc
overflow_add-pc c =
    omega (arith, parent_top _ _ c.requires, shade_bit c.args.color)

pub returns : goal.returns
returns c =
    search (rules, is_set_color)
