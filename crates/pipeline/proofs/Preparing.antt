-- What is asked about methods, and what becomes of a program behind these asks.
use Rattle.std.proofs.Common.{◌≡◌, ◌⊎◌, inl, inr, ℕ, Bool, true, false, List, [], ◌++◌, length, map, Option, Some, None, refl, sym, subst}
use Rattle.std.specs.Prelude.{Result, Ok, Err, IfOk, OnOk, OnErr}
use Rattle.std.proofs.lemmas.List.{length-map}
use Rattle.program_model.specs.declared.pass.Outside.{Outside}
use Rattle.program_model.specs.declared.program.Program.{Program}
use Rattle.program_model.specs.ProgramRules.{is_well_formed}
use Rattle.hierarchy.specs.Shapes.{IsResolved}
use Rattle.hierarchy.specs.declared.build.Hierarchy.{Hierarchy}
use Rattle.redex_outside.specs.Turns.{Turn}
use Rattle.redex_outside.specs.Voices.{Voice}
use Rattle.redex_outside.specs.Panels.{HasRun}
use Rattle.redex_outside.proofs.Runs.{run_start}
use Rattle.call_graph.specs.declared.live_set.LiveSet.{LiveSet}
use Rattle.call_graph.specs.Facts.{Fits}
use Rattle.call_graph.specs.Closed.{IsClosedSet}
use Rattle.call_graph.specs.Least.{IsLeastSet}
use Rattle.inline_calls.specs.Asked.{turn_of, Asks}
use Rattle.pipeline.specs.declared.traces.Traced.{Traced}
use Rattle.pipeline.specs.declared.asks.Advice.{Advice}
use Rattle.pipeline.specs.Advised.{verdict, AreMarks, IsAsked, IsAdvised, IsLeastMarked}
use Rattle.pipeline.specs.Asks.{Verdict, asked, no_verdict, AreAnswered}
use Rattle.pipeline.specs.Graph.{HasGraph, HasGraphFault}
use Rattle.pipeline.specs.Inlined.{IsOptimisedInlined, InlinedBegins, OfMethods, OfCalls}
use Rattle.pipeline.specs.Inlining.{IsInlining, InliningBegins}
use Rattle.pipeline.specs.Prepared.{IsAdvisedBy, IsPrepared, MayBegin, NoneTaken, SomeTaken}
use Rattle.pipeline.specs.Replies.{turns_about, HaveTaken, AreFirstOf}
use Rattle.pipeline.specs.Rounds.{first_of, HaveRunFrom, HaveRun, IsOptimised, IsOptimisedBy}
use Rattle.pipeline.specs.Silence.{IsSilent}
use Rattle.pipeline.proofs.Inlines.{inlined_begins}
use Rattle.pipeline.proofs.Results.{on_err_so}
use Rattle.pipeline.proofs.RoundLemmas.{unsilenced, none_admitted}
use Rattle.pipeline.proofs.Turns.{more_run, rows_run, taken_so, taken_by, first_all}

module _ (o : Outside) (p : Program) where
  -- ---- the advice

  -- nobody is asked
  pub unasked : (advisers : ℕ) (voices : List Voice) (answers : List Bool) (v : Verdict) → v ≡ no_verdict p → (o.optimise ≡ false) ⊎ HasGraphFault p → HaveTaken (IsAdvisedBy o p advisers answers answers v) voices voices answers answers
  unasked advisers voices answers v nothing barred =
      taken_by (IsAdvisedBy o p advisers answers answers v) [] voices voices answers answers (run_start voices answers)
      (inr (record { unasked = record { barred = barred; none = refl; nothing = nothing }; none = refl }))

  -- what is live by a hierarchy
  pub marked : (h : Hierarchy) (s : LiveSet) → is_well_formed p ≡ true → HasGraph p h → Fits p s → (is_well_formed p ≡ true → IsResolved p h → IsClosedSet p o s)
      → (is_well_formed p ≡ true → IsResolved p h → IsLeastSet p o s) → IsLeastMarked o p s
  marked h s formed graph sized closed least = record {
    marked = record { formed = formed; once = graph.resolved.of.once; grounded = graph.grounded; sized = sized; closed = closed formed graph.resolved };
    least = least formed graph.resolved;
  }

  pub found_marks : (found : Option LiveSet) (s : LiveSet) → AreMarks o p found → found ≡ Some s → IsLeastMarked o p s
  found_marks found s marks e = subst (AreMarks o p) e marks

  pub no_marks : (found : Option LiveSet) → AreMarks o p found → found ≡ None → HasGraphFault p
  no_marks found marks e = subst (AreMarks o p) e marks

  -- the methods that they say were asked about
  pub answered : (s : LiveSet) (advisers : ℕ) (olds news : List Voice) (before after : List Bool) (v : Verdict) → o.optimise ≡ true → IsLeastMarked o p s
      → AreAnswered advisers (asked s p) before after (no_verdict p) v → HasRun (turns_about s p) olds news before after → HaveTaken (IsAdvisedBy o p advisers before after v) olds news before after
  answered s advisers olds news before after v allowed marked answers run =
      taken_by (IsAdvisedBy o p advisers before after v) (turns_about s p) olds news before after run
      (inl (record { asked = record { allowed = allowed; marks = s; marked = marked.marked; least = marked.least; answered = answers }; turns_are = refl }))

  module _ {E : Type 0} (r : Result Advice E) (advisers : ℕ) where
    pub all_answered : (s : LiveSet) (olds news : List Voice) (before after : List Bool) → o.optimise ≡ true → IsLeastMarked o p s
        → IfOk r (λ a. AreAnswered advisers (asked s p) before after (no_verdict p) (verdict a)) → OnOk r (HasRun (turns_about s p) olds news before after)
        → IfOk r (λ a. HaveTaken (IsAdvisedBy o p advisers before after (verdict a)) olds news before after)
    all_answered s olds news before after allowed marked answers run = by r answers run
      where
        by : (r : Result Advice E) → IfOk r (λ a. AreAnswered advisers (asked s p) before after (no_verdict p) (verdict a)) → OnOk r (HasRun (turns_about s p) olds news before after)
            → IfOk r (λ a. HaveTaken (IsAdvisedBy o p advisers before after (verdict a)) olds news before after)
        by (Ok a) answers run = answered s advisers olds news before after (verdict a) allowed marked answers run
        by (Err e) answers run = tt

    -- nobody was
    pub none_answered : (voices : List Voice) (answers : List Bool) → (o.optimise ≡ false) ⊎ HasGraphFault p → IfOk r (λ a. verdict a ≡ no_verdict p)
        → IfOk r (λ a. HaveTaken (IsAdvisedBy o p advisers answers answers (verdict a)) voices voices answers answers)
    none_answered voices answers barred none = by r none
      where
        by : (r : Result Advice E) → IfOk r (λ a. verdict a ≡ no_verdict p) → IfOk r (λ a. HaveTaken (IsAdvisedBy o p advisers answers answers (verdict a)) voices voices answers answers)
        by (Ok a) none = unasked advisers voices answers (verdict a) none barred
        by (Err e) none = tt

  pub advised_is : (advisers : ℕ) (before after : List Bool) (v : Verdict) (turns : List Turn) → IsAdvisedBy o p advisers before after v turns → IsAdvised o p advisers before after v
  advised_is advisers before after v turns (inl by) = inl by.asked
  advised_is advisers before after v turns (inr none) = inr none.unasked

  -- ---- where memory does not suffice

  pub none_begun : (voices : List Voice) (answers : List Bool) → HaveTaken (MayBegin o p) voices voices answers answers
  none_begun voices answers = taken_by (MayBegin o p) [] voices voices answers answers (run_start voices answers) NoneTaken

  pub some_begun : {E : Type 0} (r : Result Advice E) (s : LiveSet) (olds news : List Voice) (before after : List Bool) → o.optimise ≡ true → IsLeastMarked o p s
      → OnErr r (HaveTaken (AreFirstOf (turns_about s p)) olds news before after) → OnErr r (HaveTaken (MayBegin o p) olds news before after)
  some_begun r s olds news before after allowed marked begun =
      on_err_so r (HaveTaken (AreFirstOf (turns_about s p)) olds news before after) (HaveTaken (MayBegin o p) olds news before after)
      (λ h. taken_so (AreFirstOf (turns_about s p)) (MayBegin o p) olds news before after (λ turns first. SomeTaken s turns allowed marked.marked marked.least first) h) begun

  -- all methods were asked about
  all_begun : (advisers : ℕ) (before after : List Bool) (v : Verdict) (turns : List Turn) → IsAdvisedBy o p advisers before after v turns → MayBegin o p turns
  all_begun advisers before after v turns (inl by) =
      SomeTaken by.asked.marks turns by.asked.allowed by.asked.marked by.asked.least (subst (λ (ts : List Turn). AreFirstOf ts turns) by.turns_are (first_all turns))
  all_begun advisers before after v turns (inr none) = subst (MayBegin o p) (sym none.none) NoneTaken

  pub advised_begun : (advisers : ℕ) (olds news : List Voice) (before after : List Bool) (v : Verdict) → HaveTaken (IsAdvisedBy o p advisers before after v) olds news before after → HaveTaken (MayBegin o p) olds news before after
  advised_begun advisers olds news before after v h = taken_so (IsAdvisedBy o p advisers before after v) (MayBegin o p) olds news before after (all_begun advisers before after v) h

  -- ---- the program without its silent calls

  pub prepared : (q : Program) (advisers : ℕ) (olds news : List Voice) (before after : List Bool) (v : Verdict) → is_well_formed p ≡ true
      → (is_well_formed p ≡ true → HaveTaken (IsAdvisedBy o p advisers before after v) olds news before after)
      → (is_well_formed p ≡ true → IsSilent o.silent v.admitted p q) → (is_well_formed p ≡ true → is_well_formed q ≡ true) → HaveTaken (IsPrepared o p advisers before after v q) olds news before after
  prepared q advisers olds news before after v formed advised silent still =
      taken_so (IsAdvisedBy o p advisers before after v) (IsPrepared o p advisers before after v q) olds news before after
      (λ turns by. record {
        advised = by;
        silent = silent formed;
        unsilenced = λ e. unsilenced o.silent v.admitted p q (length p.methods) (silent formed) (none_admitted o p advisers before after v (advised_is advisers before after v turns by) e);
        formed = still formed;
      })
      (advised formed)

  module _ (q : Program) (advisers : ℕ) (before middle : List Bool) (v : Verdict) where
    pub prepared_begun : (olds news : List Voice) → HaveTaken (IsPrepared o p advisers before middle v q) olds news before middle → HaveTaken (MayBegin o p) olds news before middle
    prepared_begun olds news h = taken_so (IsPrepared o p advisers before middle v q) (MayBegin o p) olds news before middle (λ turns is. all_begun advisers before middle v turns is.advised) h

    -- ---- the whole

    pub optimised : (t : Traced) (spared n : ℕ) (olds news : List Voice) → HaveTaken (IsPrepared o p advisers before middle v q) olds news before middle → spared ≡ v.spared → HaveRun o v.admitted q t n
        → IsOptimised o p advisers before middle spared t.program t.origins n
    optimised t spared n olds news h e ran = subst (λ (k : ℕ). IsOptimised o p advisers before middle k t.program t.origins n) (sym e) (record {
      admitted = v.admitted;
      advised = advised_is advisers before middle v h.turns h.holds.advised;
      silenced = q;
      silent = h.holds.silent;
      unsilenced = h.holds.unsilenced;
      formed = h.holds.formed;
      ran = ran;
    })

    -- the same of so many advisers as these
    as_many : (olds : List Voice) (turns : List Turn) → advisers ≡ length olds → IsPrepared o p advisers before middle v q turns → IsPrepared o p (length olds) before middle v q turns
    as_many olds turns e is = subst (λ (k : ℕ). IsPrepared o p k before middle v q turns) e is

    pub optimised_by : (t : Traced) (spared n : ℕ) (olds news : List Voice) → advisers ≡ length olds → HaveTaken (IsPrepared o p advisers before middle v q) olds news before middle → spared ≡ v.spared → HaveRun o v.admitted q t n
        → IsOptimisedBy o p olds news before middle spared t.program t.origins n
    optimised_by t spared n olds news many h e ran = subst (λ (k : ℕ). IsOptimisedBy o p olds news before middle k t.program t.origins n) (sym e) (record {
      admitted = v.admitted;
      methods = h.turns;
      silenced = q;
      prepared = as_many olds h.turns many h.holds;
      replied = h.run;
      ran = ran;
    })

    pub inlined : (first t : Traced) (spared n : ℕ) (olds mids news : List Voice) (after : List Bool) → advisers ≡ length olds → HaveTaken (IsPrepared o p advisers before middle v q) olds mids before middle
        → (is_well_formed q ≡ true → Asks mids news middle after (IsInlining o v.admitted q first)) → spared ≡ v.spared → HaveRunFrom o v.admitted first t n
        → IsOptimisedInlined o p olds news before after spared t.program t.origins n
    inlined first t spared n olds mids news after many h inlining e ran =
        let asks : Asks mids news middle after (IsInlining o v.admitted q first) = inlining h.holds.formed in
        subst (λ (k : ℕ). IsOptimisedInlined o p olds news before after k t.program t.origins n) (sym e) (record {
          admitted = v.admitted;
          middle = middle;
          methods = h.turns;
          silenced = q;
          prepared = as_many olds h.turns many h.holds;
          between = mids;
          told = h.run;
          calls = asks.rows;
          answered = asks.answered;
          inlined = first;
          inlining = asks.holds;
          replied = more_run h.turns (map turn_of asks.rows) olds mids news before middle after h.run (rows_run asks.rows mids news middle after asks.answered);
          ran = ran;
        })

    -- ---- where memory does not suffice for inlining, or for the rounds behind it

    pub calls_begun : (olds mids news : List Voice) (after : List Bool) → HaveTaken (IsPrepared o p advisers before middle v q) olds mids before middle
        → (is_well_formed q ≡ true → Asks mids news middle after (InliningBegins o v.admitted q)) → HaveTaken (InlinedBegins o p advisers before) olds news before after
    calls_begun olds mids news after h begins =
        let asks : Asks mids news middle after (InliningBegins o v.admitted q) = begins h.holds.formed in
        taken_by (InlinedBegins o p advisers before) (h.turns ++ map turn_of asks.rows) olds news before after
        (more_run h.turns (map turn_of asks.rows) olds mids news before middle after h.run (rows_run asks.rows mids news middle after asks.answered))
        (OfCalls middle v q h.turns asks.rows h.holds asks.holds)

    pub inlined_begun : (first : Traced) (olds mids news : List Voice) (after : List Bool) → HaveTaken (IsPrepared o p advisers before middle v q) olds mids before middle
        → (is_well_formed q ≡ true → Asks mids news middle after (IsInlining o v.admitted q first)) → HaveTaken (InlinedBegins o p advisers before) olds news before after
    inlined_begun first olds mids news after h inlining = calls_begun olds mids news after h (λ formed.
        let asks : Asks mids news middle after (IsInlining o v.admitted q first) = inlining formed in
        record { rows = asks.rows; answered = asks.answered; holds = inlined_begins o v.admitted q first asks.rows asks.holds })

  pub methods_begun : (advisers : ℕ) (olds news : List Voice) (before after : List Bool) → HaveTaken (MayBegin o p) olds news before after → HaveTaken (InlinedBegins o p advisers before) olds news before after
  methods_begun advisers olds news before after h = taken_so (MayBegin o p) (InlinedBegins o p advisers before) olds news before after (λ turns may. OfMethods turns may) h
