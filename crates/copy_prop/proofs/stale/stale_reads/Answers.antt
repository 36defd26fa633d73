use Rattle.std.proofs.Common.{◌≡◌, ◌∙◌, ap, length, false, true, replicate, Bool, List, subst}
use Rattle.std.specs.Prelude.{◌↔◌}
use Rattle.std.proofs.lemmas.Bool.{iff_false}
use Rattle.copy_prop.specs.Searches.{IsWorth}
use Rattle.copy_prop.proofs.Worth.{all_stale, none_stale}
use Rattle.copy_prop.proofs.stale.stale_reads.Goals as goal

pub returns-then-worth : goal.returns-then-worth
returns-then-worth c =
    let P : List Bool → Type 0 = λ xs. (c.in_ok-worth.worth ≡ true) ↔ IsWorth c.args.body.now c.args.copy.now xs in
    let w : (c.in_ok-worth.worth ≡ true) ↔ IsWorth c.args.body.now c.args.copy.now c.in_ok-good.good.items = subst P c.as_slice-then-some.ensures.value c.in_ok-worth.ensures in
    all_stale c.args.widths.now c.args.body.now c.args.copy.now c.requires.copy c.in_ok-good.good.items c.in_ok-good.ensures (w.0 c.if-worth.true)

pub returns-in_ok-none : goal.returns-in_ok-none
returns-in_ok-none c =
    let P : List Bool → Type 0 = λ xs. (c.in_ok-worth.worth ≡ true) ↔ IsWorth c.args.body.now c.args.copy.now xs in
    let w : (c.in_ok-worth.worth ≡ true) ↔ IsWorth c.args.body.now c.args.copy.now c.in_ok-good.good.items = subst P c.as_slice-then-some.ensures.value c.in_ok-worth.ensures in
    none_stale c.args.widths.now c.args.body.now c.args.copy.now c.requires.copy c.in_ok-good.good.items c.in_ok-good.ensures c.in_ok-none.none.items (c.in_ok-none.ensures ∙ ap (λ n. replicate n false) c.len.ensures) (iff_false w c.if-worth.false)
