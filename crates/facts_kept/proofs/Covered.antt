-- Each state of a run that begins with the calm classes done is covered.
use Rattle.std.proofs.Common.{◌≡◌, ℕ, zero, suc, Bool, true, List, [], ◌∷◌, Option, Some, None, ◌⊎◌, inl, inr, refl, sym, ap, ◌∙◌, subst}
use Rattle.std.specs.Prelude.{◌&&◌, Contains}
use Rattle.std.specs.List.{list_all}
use Rattle.dalvik_defs.specs.Names.{Text}
use Rattle.dalvik_defs.specs.Face.{Bodies, bodies_of}
use Rattle.dalvik_defs.specs.Find.{defined_method}
use Rattle.dalvik_defs.specs.Outer.{Outer}
use Rattle.dalvik_defs.specs.Shown.{Fit, fit_move}
use Rattle.dalvik_defs.specs.Happens.{Setting}
use Rattle.dalvik_defs.specs.Quiet.{calm_opening}
use Rattle.dalvik_defs.specs.State.{State, Ended, Instance, opening_world}
use Rattle.dalvik_defs.specs.Step.{after, step, setting_of}
use Rattle.dalvik_defs.specs.declared.script.Move.{Move}
use Rattle.dalvik_defs.specs.declared.program.NamedProgram.{NamedProgram}
use Rattle.dalvik_defs.specs.declared.tables.Floats.{Floats}
use Rattle.dalvik_defs.specs.declared.tables.Framework.{Framework}
use Rattle.pass_defs.specs.Analysis.{Analysis}
use Rattle.pass_defs.specs.Facts.{Facts}
use Rattle.pass_defs.specs.Live.{Family, IsClosedFamily, unconditional}
use Rattle.run_laws.specs.Holds.{Each, Holds as HoldsBy}
use Rattle.run_laws.specs.Invariant.{Invariant, both}
use Rattle.run_laws.proofs.Plain.{grown, keeps_plainly}
use Rattle.run_laws.proofs.Stacked.{keeps_both}
use Rattle.run_laws.proofs.Invariants.{holds_after}
use Rattle.run_facts.specs.Covered.{CoversWorld, covering}
use Rattle.removal_law.specs.Reach.{DefinesOnce, LeftAgrees, TellsProtos}
use Rattle.removal_law.proofs.Acyclic.{regular as upright}
use Rattle.removal_law.proofs.Fits.{fit_names_none}
use Rattle.removal_law.proofs.Lists.{contained}
use Rattle.removal_law.proofs.Protos.{told_apart, protos_told}
use Rattle.removal_law.proofs.Removal.{faces_agree}
use Rattle.removal_law.proofs.TypedCode.{typed_code}
use Rattle.run_laws.specs.Regular.{IsRegular}
use Rattle.run_laws.specs.TypedStates.{typed_states}
use Rattle.run_laws.proofs.Settled.{IsSettled, FindsRegularly}
use Rattle.run_laws.proofs.Registers.{and_left, and_right}
use Rattle.run_laws.proofs.Climbs.{class_in, none_some, some_one}
use Rattle.run_laws.proofs.Runs.{keeps_typed, typed_opening, settled}
use Rattle.run_laws.proofs.Searches.{finds_regularly}
use Rattle.cover_law.specs.Coverable.{IsCoverable}
use Rattle.cover_law.specs.Known.{RangedMove, ranged_states, live_states}
use Rattle.cover_law.specs.States.{covered_states}
use Rattle.cover_law.proofs.Ready.{IsReady}
use Rattle.cover_law.proofs.Reaching.{reaches}
use Rattle.cover_law.proofs.Living.{keeps_live}
use Rattle.cover_law.proofs.RangedRuns.{keeps_ranged}
use Rattle.cover_law.proofs.Runs.{keeps_covered}

-- ---- steps from behind

pub one_more : (s : Setting) (find : Bodies) (t : State) (n : ℕ) → after s find t (suc n) ≡ (step s find (after s find t n)).0
one_more s find t zero = refl
one_more s find t (suc n) = one_more s find (step s find t).0 n

-- no class defines two methods of one name and signature
once : (p : NamedProgram) → IsRegular p → DefinesOnce p
once p reg t c m x e i j n g = some_one m x (sym (reg.methods c m inside (contained m c.methods i))
    ∙ (ap (λ y. defined_method p (record { class = c.name; name = y; signature = m.signature })) n ∙ ap (λ y. defined_method p (record { class = c.name; name = x.name; signature = y })) g)
    ∙ reg.methods c x inside (contained x c.methods j))
  where
    inside : Contains p.classes c
    inside = class_in p t c e

module _ {V : Type 0} (a : Analysis V) (p : NamedProgram) (o : Outer) (f : Framework) (floats : Floats) (facts : Facts V) (script : List Move) (base : IsCoverable a p o f floats facts) (fit : Fit p o f script) where
  told : TellsProtos p
  told = protos_told p base.tabled.described

  agrees : (s : Family) → IsClosedFamily p o unconditional s → LeftAgrees p o s f
  agrees s closed = faces_agree p o unconditional s closed (upright p base.tabled.acyclic base.tabled.regular.class_types)
      (typed_code p base.tabled.regular.typed (told_apart p base.tabled.described (once p base.tabled.regular)) told) base.tabled.table f script fit

  pub reg : IsSettled p
  reg = settled p o f script base.tabled.regular fit

  pub ready : IsReady a p o f floats facts
  ready = record {
    regular = base.tabled.regular;
    places = base.tabled.places;
    formed = base.tabled.formed;
    firsts = base.tabled.firsts;
    reaches = reaches p o f floats reg (finds_regularly p f reg) (upright p base.tabled.acyclic base.tabled.regular.class_types) (fit_names_none p o f script fit) told base.tabled.table;
    makes = base.tabled.makes;
    sound = base.sound;
    closed = base.tabled.closed;
  }

  finds : FindsRegularly p f
  finds = finds_regularly p f reg

  abbrev s : Setting
  s = setting_of p o f floats

  abbrev i : Invariant
  i = both (both (typed_states p f o) ranged_states) (live_states p o)

  abbrev j : Invariant
  j = covering a p o facts

  covered_opening : CoversWorld a p o facts opening_world
  covered_opening = record { statics = λ k d v e i. none_some v i; instances = λ k d v n c fs e i l. none_some (Instance c fs) i }

  each_move : (xs : List Move) → list_all (fit_move p o) xs ≡ true → Each RangedMove xs → Each (both i j).move xs
  each_move [] e h = tt
  each_move (x ∷ xs) e h = ((((and_left (fit_move p o x) (list_all (fit_move p o) xs) e, h.0), tt), tt), each_move xs (and_right (fit_move p o x) (list_all (fit_move p o) xs) e) h.1)

  opened : (calm : Text → Bool) → Each RangedMove script → HoldsBy (both i j) (calm_opening calm script)
  opened calm ranged = (
    (((typed_opening p o f floats reg finds, record { statics = λ k v e. none_some v e; things = tt }), λ s k. (tt, tt)), covered_opening),
    (tt, refl),
    each_move script fit.values ranged,
  )

  -- each state of a run is covered, or it has ended
  pub covered_calm : (calm : Text → Bool) → Each RangedMove script → (n : ℕ) → (after s (bodies_of p) (calm_opening calm script) n ≡ Ended) ⊎ HoldsBy (covered_states a p o f facts) (after s (bodies_of p) (calm_opening calm script) n)
  covered_calm calm ranged n =
      let first = keeps_both s (bodies_of p) (typed_states p f o) ranged_states (keeps_typed p o f floats reg finds) (keeps_ranged a p o f floats facts ready reg finds) in
      let second = keeps_both s (bodies_of p) (both (typed_states p f o) ranged_states) (live_states p o) first (keeps_live p o f floats agrees) in
      let keep = keeps_plainly s (bodies_of p) (both i j) (keeps_both s (bodies_of p) i j second (keeps_covered a p o f floats facts ready reg finds)) in
      holds_after s (bodies_of p) (grown s (bodies_of p) (both i j)) keep n (calm_opening calm script) (opened calm ranged)
