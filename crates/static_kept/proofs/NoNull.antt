-- Registers that facts know as not null hold no null.
use Rattle.std.proofs.Common.{◌≡◌, ◌⊎◌, inl, inr, ℕ, zero, suc, ◌+◌, ◌-◌, ◌<◌, Bool, true, false, true≢false, List, [], ◌∷◌, length, Option, Some, None, refl, sym, ap, ◌∙◌, subst, arith}
use Rattle.std.specs.Prelude.{◌==◌, nat_eq, slice_get, slice_index_or, Contains}
use Rattle.std.specs.Option.{option_and_then, option_map}
use Rattle.lemmas.proofs.Bools.{untrue}
use Rattle.lemmas.proofs.Lists.{contains_here, contains_there}
use Rattle.lemmas.proofs.Options.{none_some, some_same}
use Rattle.program_model.specs.declared.body.Body.{Body}
use Rattle.program_model.specs.declared.program.Class.{Class}
use Rattle.program_model.specs.declared.program.Program.{Program}
use Rattle.class_defs.proofs.Positions.{number_of}
use Rattle.dalvik_defs.specs.Effect.{register}
use Rattle.dalvik_defs.specs.Face.{Bodies, bodies_of, face_of}
use Rattle.dalvik_defs.specs.Happens.{Setting}
use Rattle.dalvik_defs.specs.Names.{Text}
use Rattle.dalvik_defs.specs.Naming.{body_of, named, named_class, named_method}
use Rattle.dalvik_defs.specs.Outer.{Outer}
use Rattle.dalvik_defs.specs.Quiet.{calm_opening, quiet_within}
use Rattle.dalvik_defs.specs.Shown.{Fit}
use Rattle.dalvik_defs.specs.Silence.{key_in}
use Rattle.dalvik_defs.specs.State.{Classes, Ended, On, State, World, is_null, kind_of}
use Rattle.dalvik_defs.specs.Step.{after, setting_of}
use Rattle.dalvik_defs.specs.declared.names.MethodKey.{MethodKey}
use Rattle.dalvik_defs.specs.declared.program.NamedBody.{NamedBody}
use Rattle.dalvik_defs.specs.declared.program.NamedProgram.{NamedProgram}
use Rattle.dalvik_defs.specs.declared.script.Move.{Move}
use Rattle.dalvik_defs.specs.declared.state.Frame as machine
use Rattle.dalvik_defs.specs.declared.state.Value.{Value}
use Rattle.dalvik_defs.specs.declared.state.Value.TheVariants.{Word, Low, High, Object, Literal, Class as Type_}
use Rattle.dalvik_defs.specs.declared.state.Waiting.{Waiting}
use Rattle.dalvik_defs.specs.declared.state.Waiting.TheVariants.{Method}
use Rattle.dalvik_defs.specs.declared.tables.Floats.{Floats}
use Rattle.dalvik_defs.specs.declared.tables.Framework.{Framework}
use Rattle.domains.specs.Datum.{Datum, Plain, Single, is_zero}
use Rattle.domains.specs.Nulls.{Allows}
use Rattle.domains.specs.Values.{Parts, value_holds}
use Rattle.domains.specs.declared.nulls.Nullness.{Nullness}
use Rattle.domains.specs.declared.nulls.Nullness.TheVariants as null
use Rattle.dom_frame.specs.Registers.{value_at}
use Rattle.dom_frame.specs.declared.frames.Frame.{Frame}
use Rattle.facts.specs.Lent.{frame_at}
use Rattle.facts.specs.declared.facts.Facts.{Facts}
use Rattle.pass_defs.specs.Analysis.{Analysis}
use Rattle.pass_defs.specs.Facts as by_name
use Rattle.run_laws.specs.Fine.{fine_states}
use Rattle.run_laws.specs.Holds.{Each, Holds}
use Rattle.run_laws.specs.Invariant.{Invariant, both}
use Rattle.run_laws.specs.Sized.{IsSized, sized_states}
use Rattle.run_laws.proofs.FineFirsts.{firsts_there}
use Rattle.run_laws.proofs.FineRuns.{fine_kept, fine_opening}
use Rattle.run_laws.proofs.Invariants.{holds_after}
use Rattle.run_laws.proofs.Plain.{grown, keeps_plainly}
use Rattle.run_laws.proofs.SizedRuns.{sized_kept}
use Rattle.run_laws.proofs.Stacked.{keeps_both}
use Rattle.run_facts.specs.Covered.{CoversTop}
use Rattle.run_facts.specs.ValueAnalysis.{datum_of, value_analysis}
use Rattle.run_laws.proofs.Here.{into_map}
use Rattle.cover_law.specs.Coverable.{IsCoverable, IsTabled}
use Rattle.cover_law.specs.Known.{RangedMove}
use Rattle.cover_law.specs.States.{covered_states}
use Rattle.cover_law.proofs.Widths.{ranged_moves}
use Rattle.cover_law.specs.Operators.{operators}
use Rattle.cover_law.proofs.Sound.{value_sound}
use Rattle.facts_kept.specs.Folds.{AreNamed, StandsAt}
use Rattle.facts_kept.proofs.Covered.{covered_calm}
use Rattle.static_law.specs.Receiving.{HoldNoNull}
use Rattle.static_kept.specs.Knows.{KnowsNotNull, holds_no_null, is_not_null}

-- ---- lists

contains_at : {A : Type 0} (xs : List A) (n : ℕ) (x : A) → slice_get xs n ≡ Some x → Contains xs x
contains_at [] n x e = none_some x e
contains_at (y ∷ xs) zero x e = subst (Contains (y ∷ xs)) (some_same y x e) (contains_here y xs)
contains_at (y ∷ xs) (suc n) x e = contains_there y xs x (contains_at xs n x e)

got_there : (vs : List Value) (r : ℕ) → r < length vs → slice_get vs r ≡ Some (slice_index_or vs r (Word 0))
got_there [] r lt = absurd (omega (arith, lt))
got_there (v ∷ vs) zero lt = refl
got_there (v ∷ vs) (suc r) lt = got_there vs r (omega (arith, lt))

-- ---- values

-- what isn't null may be any datum but the word 0
not_zero : (x : Nullness) (z : Bool) → is_not_null x ≡ true → Allows x z → z ≡ false
not_zero null.Bottom z h a = absurd a
not_zero null.Null z h a = absurd (true≢false (sym h))
not_zero null.NotNull z h a = a
not_zero null.Any z h a = absurd (true≢false (sym h))

no_word : (n : ℕ) → (n == 0) ≡ false → nat_eq n 0 ≡ false
no_word zero h = absurd (true≢false h)
no_word (suc n) h = untrue (nat_eq (suc n) 0) (λ e. let z : suc n ≡ 0 = number_of (suc n) 0 e in omega (arith, z))

no_null : (p : NamedProgram) (k : Text) (v : Value) → is_zero (datum_of p k v) ≡ false → is_null v ≡ false
no_null p k (Word n) h = no_word n h
no_null p k (Low n) h = refl
no_null p k (High n) h = refl
no_null p k (Object n) h = refl
no_null p k (Literal t) h = refl
no_null p k (Type_ t) h = refl

-- ---- frames are as large as their bodies, in runs that begin with the calm classes done

each_move : (xs : List Move) → Each (λ (x : Move). Unit {0} × Unit {0}) xs
each_move [] = tt
each_move (x ∷ xs) = ((tt, tt), each_move xs)

sized_calm : (s : Setting) (find : Bodies) (calm : Text → Bool) (script : List Move) (n : ℕ) → (after s find (calm_opening calm script) n ≡ Ended) ⊎ Holds (both fine_states (sized_states find)) (after s find (calm_opening calm script) n)
sized_calm s find calm script n =
    let i = both fine_states (sized_states find) in
    let keep = keeps_plainly s find i (keeps_both s find fine_states (sized_states find) (fine_kept s find firsts_there) (sized_kept s find)) in
    holds_after s find (grown s find i) keep n (calm_opening calm script) ((fine_opening, tt), (tt, refl), each_move script)

module _ (program : Program) (o : Outer) (f : Framework) (floats : Floats) (facts : Facts) (t : by_name.Facts Parts) (script : List Move) (tabled : IsTabled (value_analysis (named program) operators) (named program) o f t)
    (fit : Fit (named program) o f script) (names : AreNamed program o facts t) where
  abbrev p : NamedProgram
  p = named program

  abbrev A : Analysis Parts
  A = value_analysis (named program) operators

  abbrev s : Setting
  s = setting_of (named program) o f floats

  abbrev find : Bodies
  find = bodies_of (named program)

  abbrev calm : Text → Bool
  calm = quiet_within (face_of (named program) f) (suc (length (named program).classes))

  base : IsCoverable A p o f floats t
  base = record { tabled = tabled; sound = value_sound (named program) o f floats script tabled.regular tabled.acyclic fit }

  -- an invariant of a run holds of each state with a frame on top
  on_top : (i : Invariant) (n : ℕ) (w : World) (c : Classes) (g : machine.Frame) (rest : List Waiting) (moves : List Move) → after s find (calm_opening calm script) n ≡ On w c (Method g ∷ rest) moves
      → (after s find (calm_opening calm script) n ≡ Ended) ⊎ Holds i (after s find (calm_opening calm script) n) → Holds i (On w c (Method g ∷ rest) moves)
  on_top i n w c g rest moves e (inl z) = absurd (subst (λ x. elim x as (λ s. Type 0) [ On w c stack script ↦ Unit {0} | Ended ↦ ⊥ ]) (sym e ∙ z) tt)
  on_top i n w c g rest moves e (inr h) = subst (Holds i) e h

  -- the registers of a method's body are those of its frames
  in_frame : (k : MethodKey) (n r : ℕ) (g : machine.Frame) → g.method ≡ k → KnowsNotNull program facts k n r → IsSized find g → r < length g.registers
  in_frame k n r g m x z = inside
    where
      here : find k ≡ Some (body_of program x.body)
      here = ap find x.key ∙ (ap (option_and_then (λ m. m.body)) (tabled.regular.methods (named_class program x.class) (named_method program x.method)
          (into_map (named_class program) program.classes x.class (contains_at program.classes x.place x.class x.is_class)) (into_map (named_method program) x.class.methods x.method x.in_class))
          ∙ ap (option_map (body_of program)) x.has)

      same : z.body ≡ body_of program x.body
      same = some_same z.body (body_of program x.body) (sym z.found ∙ (ap find m ∙ here))

      long : length g.registers ≡ (x.body.registers - x.body.ins) + x.body.ins
      long = z.registers ∙ ap (λ (b : NamedBody). (b.registers - b.ins) + b.ins) same

      inside : r < length g.registers
      inside = let short = x.short in omega (arith, long, short)

  pub hold_no_null : HoldNoNull (named program) o (KnowsNotNull program facts) f floats script
  hold_no_null n w c g rest moves r e k = by (frame_at facts.frames.items k.method.name g.position) refl
      (names.frames k.place k.class k.method g.position top.stands.registers k.is_class k.in_class (sym (ap (λ m. t.registers m g.position) k.key) ∙ top.stands.reached)) k.knows
    where
      covered : Holds (covered_states A p o f t) (On w c (Method g ∷ rest) moves)
      covered = on_top (covered_states A p o f t) n w c g rest moves e (covered_calm A p o f floats t script base fit calm (ranged_moves script fit.ranged) n)

      sized : Holds (both fine_states (sized_states find)) (On w c (Method g ∷ rest) moves)
      sized = on_top (both fine_states (sized_states find)) n w c g rest moves e (sized_calm s find calm script n)

      top : CoversTop A p o t w g
      top = covered.1.0.1

      v : Value
      v = register g r

      there : slice_get g.registers r ≡ Some v
      there = got_there g.registers r (in_frame g.method g.position r g refl k sized.1.0.1)

      by : (x : Option Frame) → frame_at facts.frames.items k.method.name g.position ≡ x → StandsAt top.stands.registers x → holds_no_null x r ≡ true → is_null (register g r) ≡ false
      by None i h b = absurd h
      by (Some fr) i h b = no_null p (kind_of w v) v (not_zero (value_at fr.registers r).nullness (is_zero (datum_of p (kind_of w v) v)) b (h r (datum_of p (kind_of w v) v) (top.stands.hold r v there)).1)
