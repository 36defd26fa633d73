use Rattle.std.proofs.Common.{◌≡◌, ℕ, ◌<◌, List, [], length, ◌∙◌, subst, arith}
use Rattle.std.specs.Prelude.{slice_index_or}
use Rattle.std.proofs.lemmas.List.{with_items_is}
use Rattle.program_model.specs.declared.program.Class.{Class}
use Rattle.vague_facts.specs.Vague.{anything}
use Rattle.vague_facts.specs.Counting.{CountsClasses, ComesTo}
use Rattle.vague_facts.proofs.Framing.{vague_by}
use Rattle.vague_facts.proofs.frames.vague.Goals as goal

pub returns : goal.returns
returns c = λ formed.
    let new : List ℕ = c.count_classes.new.counts in
    let written : c.deref.result.now ≡ new = c.deref.ensures.value ∙ with_items_is c.in_ok-counts.counts new (c.count_classes.ensures.rises.long ∙ c.deref_mut.ensures.len) in
    let long : length c.deref_mut.result.now ≡ length c.args.program.now.methods = c.deref_mut.ensures.len ∙ c.in_ok-counts.ensures.len ∙ c.len.ensures in
    let counted : CountsClasses new (length c.args.program.now.classes) c.args.program.now.classes = subst (λ (cs : List Class). CountsClasses new (length cs) cs) c.as_slice.ensures c.count_classes.ensures.counted in
    let frames : (n : ℕ) → n < length new → ComesTo (anything 65535) (slice_index_or new n 0) (slice_index_or c.in_ok-frames.frames.items n []) =
    subst (λ (xs : List ℕ). (n : ℕ) → n < length xs → ComesTo (anything 65535) (slice_index_or xs n 0) (slice_index_or c.in_ok-frames.frames.items n [])) written c.in_ok-frames.ensures in
    vague_by c.args.program.now _ 65535 c.deref_mut.result.now new formed (omega arith) long c.count_classes.ensures.rises counted frames c.any.ensures.is c.new.ensures.items c.new-2.ensures.items c.new-3.ensures.items
