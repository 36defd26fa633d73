-- A typed state has its wides whole.
use Rattle.std.proofs.Common.{◌≡◌, ℕ, suc, ◌+◌, true, List, [], ◌∷◌, Option, Some, None, ◌⊎◌, inl, inr, sym, ap, ◌∙◌, subst, arith}
use Rattle.dalvik_defs.specs.Effect.{register}
use Rattle.dalvik_defs.specs.Face.{bodies_of}
use Rattle.dalvik_defs.specs.Names.{Text, is_wide}
use Rattle.dalvik_defs.specs.Outer.{Outer}
use Rattle.dalvik_defs.specs.Shown.{Fit}
use Rattle.dalvik_defs.specs.State.{World, Classes, Thing, Instance, Items, State, On, Ended, opening, word_of}
use Rattle.dalvik_defs.specs.Step.{after, setting_of}
use Rattle.dalvik_defs.specs.declared.program.NamedProgram.{NamedProgram}
use Rattle.dalvik_defs.specs.declared.script.Move.{Move}
use Rattle.dalvik_defs.specs.declared.state.Frame.{Frame}
use Rattle.dalvik_defs.specs.declared.state.Value.{Value}
use Rattle.dalvik_defs.specs.declared.state.Value.TheVariants.{Low, High}
use Rattle.dalvik_defs.specs.declared.state.Waiting.{Waiting}
use Rattle.dalvik_defs.specs.declared.state.Waiting.TheVariants.{Method, Initialiser, Ending, Outside}
use Rattle.dalvik_defs.specs.declared.tables.Floats.{Floats}
use Rattle.dalvik_defs.specs.declared.tables.Framework.{Framework}
use Rattle.pass_defs.specs.Kinds.{kind_eq, kind_of}
use Rattle.pass_defs.specs.Kinds as kind
use Rattle.pass_defs.specs.Registers.{kind_at}
use Rattle.run_laws.specs.Holds.{Each, Holds, Pends, Stacks, Waits}
use Rattle.run_laws.specs.Invariant.{Above, Callee, Begun, Owing, Invariant}
use Rattle.run_laws.specs.Regular.{IsRegular}
use Rattle.run_laws.specs.TypedStates.{KindHolds, ItemOf, TypedFrame, TypedThing, TypedWorld, typed_states}
use Rattle.run_laws.specs.Wides.{IsWhole, HoldsWides, WideThing, WideWorld, wide_states}
use Rattle.run_laws.proofs.Registers.{all_at, all_halves}
use Rattle.run_laws.proofs.Runs.{typed_regular}
use Rattle.run_laws.proofs.Sorts.{Sorted, OfWord, OfWide, OfReference, OfNone, sorted}
use Rattle.run_laws.proofs.Arrays.{true_false}

-- ---- of an invariant that says more

module _ (i j : Invariant) (outside : (w : World) (c : Classes) → i.outside w c → j.outside w c) (top : (w : World) (c : Classes) (g : Frame) → i.top w c g → j.top w c g)
    (waits : (w : World) (a : Above) (g : Frame) → i.waits w a g → j.waits w a g) (class : (t : Text) → i.class t → j.class t) (move : (x : Move) → i.move x → j.move x) (ended : i.ended → j.ended) where
  pends_to : (o : Option Move) → Pends i o → Pends j o
  pends_to None h = h
  pends_to (Some m) h = move m h

  each_to : {A : Type 0} (P Q : A → Type 0) → ((x : A) → P x → Q x) → (xs : List A) → Each P xs → Each Q xs
  each_to P Q to [] h = h
  each_to P Q to (x ∷ xs) h = (to x h.0, each_to P Q to xs h.1)

  waits_to : (w : World) (a : Above) (r : List Waiting) → Waits i w a r → Waits j w a r
  waits_to w a [] h = h
  waits_to w a (Method f ∷ r) h = (waits w a f h.0, waits_to w (Callee f.method) r h.1)
  waits_to w a (Initialiser t ts ∷ r) h = (h.0, (class t h.1.0, each_to i.class j.class class ts h.1.1), waits_to w (Begun t) r h.2)
  waits_to w a (Ending t ∷ r) h = (h.0, class t h.1, waits_to w (Begun t) r h.2)
  waits_to w a (Outside None pending ∷ r) h = (h.0, pends_to pending h.1, h.2)
  waits_to w a (Outside (Some kind) pending ∷ r) h = (h.0, pends_to pending h.1, waits_to w (Owing kind) r h.2)

  stacks_to : (w : World) (c : Classes) (r : List Waiting) → Stacks i w c r → Stacks j w c r
  stacks_to w c [] h = h
  stacks_to w c (Method f ∷ r) h = (top w c f h.0, waits_to w (Callee f.method) r h.1)
  stacks_to w c (Initialiser t ts ∷ r) h = ((class t h.0.0, each_to i.class j.class class ts h.0.1), waits_to w (Begun t) r h.1)
  stacks_to w c (Ending t ∷ r) h = (class t h.0, waits_to w (Begun t) r h.1)
  stacks_to w c (Outside None pending ∷ r) h = (pends_to pending h.0, h.1)
  stacks_to w c (Outside (Some kind) pending ∷ r) h = (pends_to pending h.0, waits_to w (Owing kind) r h.1)

  pub holds_to : (t : State) → Holds i t → Holds j t
  holds_to Ended h = ended h
  holds_to (On w c stack script) h = (outside w c h.0, stacks_to w c stack h.1, each_to i.move j.move move script h.2)

-- ---- wides of typed states

module _ (p : NamedProgram) (f : Framework) where
  wide_value : (c : Text) (w : World) (u : Text) (v : Value) → is_wide u ≡ true → KindHolds p f c w (kind_of p u) v → IsWhole v
  wide_value c w u v e h = by (sorted p u)
    where
      by : Sorted p u → IsWhole v
      by (OfWide q b d j l) = subst (λ k. KindHolds p f c w k v) j h
      by (OfWord q b d j l) = true_false e b
      by (OfReference q b d j l) = true_false e b
      by (OfNone q b d j l) = true_false e b

  wide_item : (w : World) (u : Text) (v : Value) → is_wide u ≡ true → ItemOf p f w u v → IsWhole v
  wide_item w u v e h = by (sorted p u)
    where
      by : Sorted p u → IsWhole v
      by (OfWide q b d j l) = subst (λ k. KindHolds p f [] w k v) l (h [])
      by (OfWord q b d j l) = true_false e b
      by (OfReference q b d j l) = true_false e b
      by (OfNone q b d j l) = true_false e b

  wide_thing : (w : World) (t : Thing) → TypedThing p f w t → WideThing t
  wide_thing w (Instance c fields) h = λ k v e i. wide_value [] w k.kind v e (h.1 k v i [])
  wide_thing w (Items u vs) h = λ e. each vs e h
    where
      each : (vs : List Value) → is_wide u ≡ true → Each (ItemOf p f w u) vs → Each IsWhole vs
      each [] e h = tt
      each (v ∷ vs) e h = (wide_item w u v e h.0, each vs e h.1)

  pub wide_world : (w : World) → TypedWorld p f w → WideWorld w
  wide_world w h = record { statics = λ k v e i. wide_value [] w k.kind v e (h.statics k v i []); things = things w.heap h.things }
    where
      things : (ts : List Thing) → Each (TypedThing p f w) ts → Each WideThing ts
      things [] h = tt
      things (t ∷ ts) h = (wide_thing w t h.0, things ts h.1)

  -- the two registers of a wide
  wide_registers : (w : World) (g : Frame) (t : TypedFrame p f w g) (r : ℕ) → kind_at t.kinds.registers r ≡ kind.Low → kind_at t.kinds.registers (r + 1) ≡ kind.High → (n : ℕ) × ((register g r ≡ Low n) × (register g (r + 1) ≡ High n))
  wide_registers w g t r e i = (low.0, (low.1, high.1 ∙ ap High same))
    where
      own : Text
      own = t.in_method.class.name

      held : (s : ℕ) → KindHolds p f own w (kind_at t.kinds.registers s) (register g s)
      held s = all_at p f own w t.kinds.registers g.registers s t.holds.registers

      low : (n : ℕ) × (register g r ≡ Low n)
      low = subst (λ k. KindHolds p f own w k (register g r)) e (held r)

      high : (n : ℕ) × (register g (r + 1) ≡ High n)
      high = subst (λ k. KindHolds p f own w k (register g (r + 1))) i (held (r + 1))

      next : r + 1 ≡ suc r
      next = omega arith

      halves : word_of (register g r) ≡ word_of (register g (r + 1))
      halves = all_halves p f own w t.kinds.registers g.registers r t.holds.registers (ap (λ k. kind_eq k kind.Low) e) (subst (λ s. kind_eq (kind_at t.kinds.registers s) kind.High ≡ true) next (ap (λ k. kind_eq k kind.High) i))
          ∙ ap (λ s. word_of (register g s)) (sym next)

      same : high.0 ≡ low.0
      same = sym (ap word_of high.1) ∙ (sym halves ∙ ap word_of low.1)

  pub wides_held : (w : World) (g : Frame) (t : TypedFrame p f w g) → HoldsWides t.kinds g
  wides_held w g t = record { registers = λ r e i. wide_registers w g t r e i; result = λ e. subst (λ k. KindHolds p f t.in_method.class.name w k g.result) e t.holds.result }

  pub wide_holds : (o : Outer) (t : State) → Holds (typed_states p f o) t → Holds (wide_states p f o) t
  wide_holds o t h = holds_to (typed_states p f o) (wide_states p f o) (λ w c h. wide_world w h) (λ w c g h. record { typed = h; wides = wides_held w g h })
      (λ w a g h. record { typed = h; wides = wides_held w g h.frame }) (λ u h. h) (λ x h. h) (λ h. h) t h

-- Each state that a run of a regular program reaches has its wides whole.
pub wides_regular : (p : NamedProgram) (o : Outer) (f : Framework) (floats : Floats) (script : List Move) (n : ℕ) → IsRegular p → Fit p o f script
    → (after (setting_of p o f floats) (bodies_of p) (opening script) n ≡ Ended) ⊎ Holds (wide_states p f o) (after (setting_of p o f floats) (bodies_of p) (opening script) n)
wides_regular p o f floats script n regular fit = by (typed_regular p o f floats script n regular fit)
  where
    t : State
    t = after (setting_of p o f floats) (bodies_of p) (opening script) n

    by : (t ≡ Ended) ⊎ Holds (typed_states p f o) t → (t ≡ Ended) ⊎ Holds (wide_states p f o) t
    by (inl e) = inl e
    by (inr h) = inr (wide_holds p f o t h)
