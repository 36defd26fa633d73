use Rattle.std.proofs.Common.{◌≡◌, ◌<◌, ℕ, Some, None, length, sym, ap, ◌∙◌}
use Rattle.std.specs.Prelude.{slice_get}
use Rattle.std.specs.List.{list_any}
use Rattle.program_model.specs.Lookups.{class_place}
use Rattle.class_defs.specs.Places.{is_under}
use Rattle.hierarchy.specs.Tables.{row_of}
use Rattle.receivers.specs.Receiving.{under_place}
use Rattle.receivers.proofs.Ranges.{at_in}
use Rattle.receivers.proofs.Stands.{rows_above}
use Rattle.receivers.proofs.Walks.{place_short}
use Rattle.receivers.proofs.finding.Finder.is_under.Goals as goal

pub returns-in-Some : goal.returns-in-Some
returns-in-Some c = λ f l k.
    let p = c.args.self.now.program.now in
    let e : class_place p c.args.kind ≡ Some c.in-Some.upper = sym (c.place_of.ensures.is p f.resolved.of) ∙ c.in-Some.is in
    c.is_under.ensures p f.resolved l (place_short p c.args.kind c.in-Some.upper e) ∙ sym (ap (under_place p c.args.class c.args.kind) e)

pub returns-in-None : goal.returns-in-None
returns-in-None c = λ f l k.
    let s = c.args.self.now in
    let p = s.program.now in
    let e : class_place p c.args.kind ≡ None = sym (c.place_of.ensures.is p f.resolved.of) ∙ c.in-None.is in
    let short : (i x : ℕ) → slice_get c.listers.result.now i ≡ Some x → x < length p.classes =
    λ i x g. (f.listed.only c.args.kind x (at_in (row_of s.listed c.args.kind) i x (ap (λ r. slice_get r i) (sym c.listers.ensures) ∙ g))).1 in
    c.is_under_one.ensures f l short
    ∙ (ap (list_any (is_under p c.args.class)) c.listers.ensures
    ∙ (rows_above p s.listed c.args.class c.args.kind f.listed k ∙ sym (ap (under_place p c.args.class c.args.kind) e)))
