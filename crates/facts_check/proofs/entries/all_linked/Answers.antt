use Rattle.std.proofs.Common.{ℕ, ◌≤◌, List, ◌∙◌, refl, ap, subst, get_or}
use Rattle.std.specs.Prelude.{length}
use Rattle.std.proofs.lemmas.Option.{get_or_from_slice_get}
use Rattle.call_targets.specs.declared.table.Link.{Link}
use Rattle.facts_check.specs.Tables.{IsLinkHeld}
use Rattle.facts_check.proofs.Loops.{one_more, all_of}
use Rattle.facts_check.proofs.entries.all_linked.Goals as goal

pub loop-link-preserved : goal.loop-link-preserved
loop-link-preserved c = λ known. one_more (λ (i : ℕ) (link : Link). IsLinkHeld c.args.known.now link) c.args.known.now.targets.now.links.items c.loop-link.link-index (λ y e. subst (λ (link : Link). IsLinkHeld c.args.known.now link) (ap (λ (xs : List Link). get_or xs c.loop-link.link-index (record { call = 0; method = 0 })) c.as_slice-link-items.ensures.value ∙ get_or_from_slice_get c.args.known.now.targets.now.links.items c.loop-link.link-index y (record { call = 0; method = 0 }) e) (c.if-not-link_holds.ensures known refl)) (c.loop-link.invariant known)

pub returns : goal.returns
returns c =
    let long : length c.args.known.now.targets.now.links.items ≤ c.loop-link.link-index = subst (λ (xs : List Link). length xs ≤ c.loop-link.link-index) c.as_slice-link-items.ensures.value c.loop-link-test.false in
    λ known e. all_of (λ (i : ℕ) (link : Link). IsLinkHeld c.args.known.now link) c.args.known.now.targets.now.links.items c.loop-link.link-index long (c.loop-link.invariant known)
