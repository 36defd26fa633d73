-- Calls that are inlined before the rounds, and what is asked about them.
use Rattle.std.proofs.Common.{◌≡◌, ℕ, Bool, true, List, [], ◌∷◌, length, Option, Some, None, refl, append-nil, sym, subst}
use Rattle.std.specs.Prelude.{MatchOption}
use Rattle.std.proofs.lemmas.List.Elements.{All-nil}
use Rattle.program_model.specs.declared.pass.Changed.{Changed}
use Rattle.program_model.specs.declared.pass.Outside.{Outside}
use Rattle.program_model.specs.declared.program.Program.{Program}
use Rattle.program_model.specs.ProgramRules.{is_well_formed}
use Rattle.hierarchy.specs.declared.build.Hierarchy.{Hierarchy}
use Rattle.verify.specs.Methods.{TypesAll}
use Rattle.redex_outside.specs.Voices.{Voice}
use Rattle.redex_outside.specs.Panels.{EachReplied}
use Rattle.facts.specs.declared.facts.Facts.{Facts}
use Rattle.inline_calls.specs.Asked.{Row, answers_of, AreAnswered, Asks}
use Rattle.inline_calls.specs.Plans.{nothing_done, Between, IsBegun, Begins, IsInlined}
use Rattle.pipeline.specs.declared.traces.Traced.{Traced}
use Rattle.pipeline.specs.Graph.{HasGraph, HasGraphFault}
use Rattle.pipeline.specs.Inlining.{AreTaken, Found, Empty, Inlines, IsInlining, Inlined, Kept, InliningBegins, NoneAsked, SomeAsked}
use Rattle.pipeline.specs.Passes.{KeepsForms, IsAnalysis}
use Rattle.pipeline.specs.Rounds.{first_of}

-- ---- nothing is asked

none_replied : (voices : List Voice) → EachReplied [] voices [] voices
none_replied [] = tt
none_replied (voice ∷ voices) = ((λ rest. refl), none_replied voices)

none_answered : (voices : List Voice) (answers : List Bool) → AreAnswered [] voices voices answers answers
none_answered voices answers = record {
  grown = sym (append-nil answers);
  each_adviser = All-nil (λ (r : Row). length (answers_of r) ≡ length voices);
  replied = none_replied voices;
}

pub no_rows : (voices : List Voice) (answers : List Bool) (P : List Row → Type 0) → P [] → Asks voices voices answers answers P
no_rows voices answers P h = record { rows = []; answered = none_answered voices answers; holds = h }

module _ (o : Outside) (admitted : List Bool) (p : Program) where
  -- ---- the facts

  -- those that were found, or none
  pub taken : (found : Option Facts) (facts : Facts) → is_well_formed p ≡ true → IsAnalysis o admitted p found → MatchOption found (facts.frames.items ≡ []) (λ f. facts ≡ f) → AreTaken o admitted p facts
  taken (Some f) facts formed a e = subst (AreTaken o admitted p) (sym e) (Found (a.says formed))
  taken None facts formed a e = Empty e (a.says formed)

  -- ---- what is inlined

  pub inlines : (h : Hierarchy) (facts : Facts) (c : Changed) (olds news : List Voice) (before after : List Bool) → HasGraph p h → AreTaken o admitted p facts
      → Asks olds news before after (IsInlined p h facts admitted c.program c.count c.origins) → is_well_formed c.program ≡ true → (TypesAll p h → TypesAll c.program h)
      → Asks olds news before after (IsInlining o admitted p (record { program = c.program; origins = c.origins }))
  inlines h facts c olds news before after graph by asks formed typed = record {
    rows = asks.rows;
    answered = asks.answered;
    holds = Inlined asks.rows (record { hierarchy = h; graph = graph; facts = facts; taken = by; count = c.count; inlined = asks.holds; formed = formed; typed = typed });
  }

  -- the class graph has a fault
  pub keeps : (t : Traced) (voices : List Voice) (answers : List Bool) → t ≡ first_of p → HasGraphFault p → Asks voices voices answers answers (IsInlining o admitted p t)
  keeps t voices answers e fault = no_rows voices answers (IsInlining o admitted p t) (Kept e fault)

  -- ---- where memory does not suffice

  pub none_begun : (voices : List Voice) (answers : List Bool) → Asks voices voices answers answers (InliningBegins o admitted p)
  none_begun voices answers = no_rows voices answers (InliningBegins o admitted p) NoneAsked

  pub begins : (h : Hierarchy) (facts : Facts) (olds news : List Voice) (before after : List Bool) → HasGraph p h → AreTaken o admitted p facts
      → Asks olds news before after (IsBegun p h facts admitted (nothing_done p)) → Asks olds news before after (InliningBegins o admitted p)
  begins h facts olds news before after graph by asks = record { rows = asks.rows; answered = asks.answered; holds = SomeAsked h facts asks.rows graph by asks.holds }

  -- all calls were asked about
  pub inlined_begins : (t : Traced) (rows : List Row) → IsInlining o admitted p t rows → InliningBegins o admitted p rows
  inlined_begins t _ (Inlined rows i) =
      SomeAsked i.hierarchy i.facts rows i.graph i.taken (Begins i.inlined.planned.inliner rows i.inlined.planned.for (Between (length p.classes) rows i.inlined.edits i.inlined.last i.inlined.planned.looked))
  inlined_begins t _ (Kept e fault) = NoneAsked
