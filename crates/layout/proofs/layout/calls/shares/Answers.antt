use Rattle.std.proofs.Common.{◌||◌, refl, ◌∙◌, rules, tests}
use Rattle.std.proofs.lemmas.Iterator.{YieldsList-from_slice}
use Rattle.std.proofs.lemmas.Iterator.Search.{any_from_yields_List}
use Rattle.std.proofs.lemmas.List.Recursion.{same_from_clauses}
use Rattle.std.specs.List.{list_any}
use Rattle.layout.specs.declared.buffer.Buffer.{Buffer}
use Rattle.layout.specs.Buffers.{meets, shares}
use Rattle.layout.proofs.layout.calls.shares.Goals as goal

pub returns : goal.returns
returns c =
    let bs = c.args.buffers.now in
    let test = λ (b : Buffer). meets b c.args.x.now in
    let any = any_from_yields_List test _ _ _ c.any.ensures.ran (YieldsList-from_slice bs cc) (λ b r q k. search (rules, tests)) in
    any ∙ same_from_clauses (list_any test) (λ l. shares l c.args.x.now) (λ b r. test b || r) refl (λ _ _. refl) (λ _ _. refl) bs
