use Rattle.std.proofs.Common.{◌∙◌, length, ap, inl, arith}
use Rattle.board.specs.Rounds.{numbers_left}
use Rattle.board.specs.declared.round.Round.{Round}
use Rattle.board.proofs.Rounds.{length_numbers}
use Rattle.board.proofs.descriptor.keep_run.Goals as goal

pub loop-i-init-derived : goal.loop-i-init-derived
loop-i-init-derived g c =
    let i = c.into_iter-i-iterator in
    let run = c.args.run in
    let round = ap (λ x. x.iter) i.ensures.into_iter_gives ∙ c.enumerate-i-items.ensures.source in
    let count = ap (λ (r : Round). length (numbers_left r)) round ∙ length_numbers run.setup run.at run.left in
    let none = ap (λ x. x.count) i.ensures.into_iter_gives ∙ c.enumerate-i-items.ensures.count in
    ((tt, tt, inl (omega (arith, count, none))), tt)
