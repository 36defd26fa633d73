-- Steps that stay in their frame, or throw in it, keep it covered.
use Rattle.std.proofs.Common.{◌≡◌, ℕ, ◌+◌, ◌<◌, Bool, true, false, true≢false, List, [], ◌∷◌, Option, Some, None, refl, sym, ap, ◌∙◌, subst}
use Rattle.std.specs.Prelude.{codes, ◌||◌, not, ◌^◌, length, map, slice_get, Contains}
use Rattle.std.specs.Option.{option_map, option_and_then}
use Rattle.std.proofs.lemmas.Bool.{eqb-true}
use Rattle.insn_set.specs.declared.ops.Slot.{Slot}
use Rattle.insn_set.specs.declared.ops.Slot.TheVariants as slot
use Rattle.dalvik_defs.specs.Names.{Text, text_eq, is_reference, is_array, array_of, item_of}
use Rattle.dalvik_defs.specs.Face.{face_of, bodies_of}
use Rattle.dalvik_defs.specs.Outer.{Outer}
use Rattle.dalvik_defs.specs.Known.{null_pointer}
use Rattle.dalvik_defs.specs.State.{World, Classes, Thing, Items, fresh, is_null, kind_of, next_object, with_thing, word_of}
use Rattle.dalvik_defs.specs.Effect.{Effect, Goes, Faults, Throws, Gives, Calls, Makes, Reads, Writes, Locks, Unlocks, Stuck, register, write_slot, unless_null, next, go}
use Rattle.dalvik_defs.specs.Act.{act}
use Rattle.dalvik_defs.specs.Outcome.{Outcome, Stays, Raises, faults, need_of, outcome}
use Rattle.dalvik_defs.specs.Stack.{lands, handler_at}
use Rattle.dalvik_defs.specs.declared.state.Value.{Value}
use Rattle.dalvik_defs.specs.declared.state.Value.TheVariants.{Low}
use Rattle.dalvik_defs.specs.declared.state.Frame.{Frame}
use Rattle.dalvik_defs.specs.declared.events.Event.{Event}
use Rattle.dalvik_defs.specs.declared.forms.Form.{Form}
use Rattle.dalvik_defs.specs.declared.forms.Form.TheVariants as form
use Rattle.dalvik_defs.specs.declared.program.NamedProgram.{NamedProgram}
use Rattle.dalvik_defs.specs.declared.tables.Floats.{Floats}
use Rattle.dalvik_defs.specs.declared.tables.Framework.{Framework}
use Rattle.pass_defs.specs.Analysis.{Analysis, IsRanged}
use Rattle.pass_defs.specs.Bare.{may_throw}
use Rattle.run_facts.specs.Closed.{At, put_sized, is_wide_slot, edges, Filled}
use Rattle.pass_defs.specs.Facts.{Facts}
use Rattle.pass_defs.specs.Kinds.{kind_eq, is_initialised}
use Rattle.pass_defs.specs.Kinds as kind
use Rattle.run_laws.specs.Fine.{IsThere}
use Rattle.run_laws.specs.Holds.{Each}
use Rattle.run_laws.specs.Invariant.{Invariant, both}
use Rattle.run_laws.proofs.Fine.{each_get}
use Rattle.run_laws.proofs.Growing.{act_grows, EffectGrows}
use Rattle.run_laws.proofs.Stacked.{LeadsOver, LandedOver}
use Rattle.run_facts.specs.Covered.{SeesAll, TakesFrom, CoversTop, CoversWorld, covering}
use Rattle.program_laws.specs.Results.{gives_result}
use Rattle.run_laws.specs.TypedStates.{KindHolds, TypedFrame, TypedWorld, typed_states}
use Rattle.run_laws.proofs.Settled.{IsSettled}
use Rattle.run_laws.proofs.Registers.{and_left}
use Rattle.run_laws.proofs.Orders.{kind_sound}
use Rattle.run_laws.proofs.ArrayForms.{kind_new, untrue2}
use Rattle.run_laws.proofs.Here.{setting}
use Rattle.run_laws.proofs.Here as typed
use Rattle.run_laws.proofs.Forms.{or_left}
use Rattle.form_laws.specs.Changes.{operands}
use Rattle.cover_law.proofs.Ready.{IsReady}
use Rattle.cover_law.specs.Known.{KnownFrame, KnownWorld, RangedThing, ranged_states, live_states}
use Rattle.cover_law.proofs.Along.{Along, Looks, IsTold, act_along, sees_put, sees_wide}
use Rattle.cover_law.proofs.Reading.{Ss, reads_seen}
use Rattle.cover_law.proofs.Standing.{reg_there, own_form, at_typed, gone_on, top_on, caught_on, taken_on}
use Rattle.cover_law.proofs.Worlds.{SameFields, same_with, same_world, covers_over, typed_fields}
use Rattle.cover_law.proofs.Local.{IsLocal, Fits, act_fits}

pub array_whole : (u : Text) → is_array u ≡ true → array_of (item_of u) ≡ u
array_whole [] e = absurd (true≢false (sym e))
array_whole (c ∷ us) e = ap (λ c. c ∷ us) (sym (eqb-true c 91 e))

module _ {V : Type 0} (a : Analysis V) (p : NamedProgram) (o : Outer) (f : Framework) (floats : Floats) (facts : Facts V) (base : IsReady a p o f floats facts) (reg : IsSettled p) where
  -- what is known of each state before, and what is said of it now
  abbrev pub below : Invariant
  below = both (both (typed_states p f o) ranged_states) (live_states p o)

  abbrev pub covers : Invariant
  covers = covering a p o facts

  module _ (w : World) (cs : Classes) (g : Frame) (tw : TypedWorld p f w) (kw : KnownWorld p o w) (cw : CoversWorld a p o facts w) (t : TypedFrame p f w g) (kg : KnownFrame p o g) (top : CoversTop a p o facts w g) where
    abbrev pub Leads : Outcome → Type 0
    Leads = LeadsOver (setting p o f floats reg) (bodies_of p) below covers w cs g

    abbrev pub Does : Effect → Type 0
    Does e = Leads (outcome (face_of p f) (need_of (face_of p f) cs) e w g)

    abbrev pub Is : Form → Type 0
    Is y = typed.At p o f floats reg w g t y

    abbrev x : ℕ → V
    x = top.stands.registers

    pub kept : (w1 : World) → SameFields w w1 → CoversWorld a p o facts w1
    kept w1 s = covers_over p a o facts w w1 (typed_fields p f w tw) s cw

    pub there : (r : ℕ) → IsThere w (register g r)
    there r = reg_there a p o f floats facts base reg w g t r

    pub arrays : (n : ℕ) (k : Text) (vs : List Value) → slice_get w.heap n ≡ Some (Items k vs) → (length vs < 2 ^ 31) × Each IsRanged vs
    arrays n k vs e = each_get RangedThing w.heap n (Items k vs) kw.ranged.things e

    module _ (y : Form) (h : Is y) where
      abbrev pub here : At a p facts g.method g.position
      here = at_typed a p o f floats facts base reg w g t y x h.has top.stands.reached

      -- along an edge to a position that takes no result
      pub stays : gives_result y ≡ false → (w1 : World) (g1 : Frame) (e : Option Event) → SameFields w w1 → g1.method ≡ g.method → (q : ℕ × (ℕ → V)) → Contains (edges a p facts g.position y x) q → g1.position ≡ q.0 → SeesAll a p o facts q.1 w1 g1.registers
          → Leads (Stays w1 g1 e)
      stays gives w1 g1 e s em q i ep hold = λ u v. (kept w1 s, top_on a p o f floats facts base reg w g t y h.has top.stands gives w1 g1 q i ep em hold)

      -- what is thrown lands
      pub raises : may_throw y ≡ true → (w1 : World) (v : Value) → SameFields w w1 → Leads (Raises w1 v)
      raises thr w1 v s = λ u th. (kept w1 s, tt, landed)
        where
          above : Text → Bool
          above = (face_of p f).under (kind_of w1 v)

          L : Option Frame → Type 0
          L = LandedOver (setting p o f floats reg) (bodies_of p) below covers w1 cs

          by : (z : Option ℕ) → handler_at above g.position t.in_method.body ≡ z → L (option_map (λ at. record (go g at) { caught = v }) z)
          by None i = tt
          by (Some q) i = λ u. caught_on a p o f floats facts base reg w g t y h.has top.stands thr w1 s.grows above v q i

          landed : L (lands (face_of p f) (bodies_of p) w1 g v)
          landed = subst (λ b. L (option_map (λ at. record (go g at) { caught = v }) (option_and_then (handler_at above g.position) b))) (sym (ap (bodies_of p) t.of ∙ t.in_method.has_body)) (by (handler_at above g.position t.in_method.body) refl)

      pub faulted : may_throw y ≡ true → (u : Text) → Leads (faults w u)
      faulted thr u = raises thr (with_thing w (fresh u)) (next_object w) (same_with w (fresh u) (λ k. refl))

      pub held : may_throw y ≡ true → (v : Value) (e : Effect) → (is_null v ≡ false → Does e) → Does (unless_null v e)
      held thr v e more = by (is_null v) refl
        where
          by : (b : Bool) → is_null v ≡ b → Does (elim b as (λ b. Effect) [ true ↦ Faults null_pointer | false ↦ e ])
          by true i = faulted thr null_pointer
          by false i = more i

      abbrev pub Goes_along : Effect → Type 0
      Goes_along = Along a p facts (face_of p f).under floats base.sound w g x top.stands.hold there arrays (edges a p facts g.position y x)

      local : gives_result y ≡ false → (e : Effect) → Goes_along e → Fits w g (may_throw y) e → EffectGrows w g e → Does e
      local gives (Goes w1 g1) al fi gr = stays gives w1 g1 None fi gr.1 al.0 al.1 al.2 al.3
      local gives (Faults u) al fi gr = faulted fi u
      local gives (Throws v) al fi gr = raises fi w v (same_world w)
      local gives (Gives v) al fi gr = absurd fi
      local gives (Calls kind k vs) al fi gr = absurd fi
      local gives (Makes to u) al fi gr = absurd fi
      local gives (Reads i to k on) al fi gr = absurd fi
      local gives (Writes k on v) al fi gr = absurd fi
      local gives (Locks v) al fi gr = absurd fi
      local gives (Unlocks v) al fi gr = absurd fi
      local gives Stuck al fi gr = tt

      pub looks : Looks a p facts (face_of p f).under floats base.sound w g x top.stands.hold there arrays (operands y)
      looks = by (operands y) (reads_seen a p o f floats reg facts w g t x top.stands.hold y h)
        where
          by : (rs : List ℕ) → Ss a p o f floats reg facts w g t x top.stands.hold rs → Looks a p facts (face_of p f).under floats base.sound w g x top.stands.hold there arrays rs
          by [] h = tt
          by (r ∷ rs) h = (h.0, by rs h.1)

      pub local_form : IsLocal y → gives_result y ≡ false → IsTold a p facts (face_of p f).under floats base.sound w g x top.stands.hold there arrays y → Does (act (face_of p f).under floats y w g)
      local_form l gives told = local gives (act (face_of p f).under floats y w g) (act_along a p facts (face_of p f).under floats base.sound w g x top.stands.hold there arrays y told looks) (act_fits w g (face_of p f).under floats y l) (act_grows w g (face_of p f).under floats y)

    -- ---- places of results

    pub results : (s : Slot) (to : ℕ) → Is (form.MoveResult s to) → Does (act (face_of p f).under floats (form.MoveResult s to) w g)
    results s to h = by s (top.takes s to (own_form a p o f floats facts base reg w g t (form.MoveResult s to) h.has)) h
      where
        low : (k : TakesFrom a p o facts w g) (n : ℕ) → g.result ≡ Low n → a.holds k.value [] (Low (word_of g.result))
        low k n e = subst (λ v. a.holds k.value [] (Low (word_of v))) (sym e) (subst (λ v. a.holds k.value (kind_of w v) v) e k.holds)

        wide : kind_eq t.kinds.result kind.Low ≡ true → (n : ℕ) × (g.result ≡ Low n)
        wide e = subst (λ k. KindHolds p f t.in_method.class.name w k g.result) (kind_sound t.kinds.result kind.Low e) t.holds.result

        took : (s : Slot) → Is (form.MoveResult s to) → (k : TakesFrom a p o facts w g) → (next (write_slot s g to g.result)).position ≡ g.position + 1 → (next (write_slot s g to g.result)).method ≡ g.method
            → SeesAll a p o facts (put_sized a (is_wide_slot a s) to k.value x) w (write_slot s g to g.result).registers → Does (Goes w (next (write_slot s g to g.result)))
        took s h k ep em hold = λ u v. (kept w (same_world w), taken_on a p o f floats facts base reg w g t (form.MoveResult s to) h.has top.stands s to refl k w (next (write_slot s g to g.result)) ep em hold)

        by : (s : Slot) → TakesFrom a p o facts w g → Is (form.MoveResult s to) → Does (Goes w (next (write_slot s g to g.result)))
        by slot.Word k h = took slot.Word h k refl refl (sees_put a p facts x w g.registers to k.value g.result top.stands.hold k.holds)
        by slot.Object k h = took slot.Object h k refl refl (sees_put a p facts x w g.registers to k.value g.result top.stands.hold k.holds)
        by slot.Wide k h = let n = wide (and_left (kind_eq t.kinds.result kind.Low) true h.allowed) in
            took slot.Wide h k refl refl (sees_wide a p facts (face_of p f).under floats base.sound x w g.registers to k.value (word_of g.result) top.stands.hold (low k n.0 n.1))

    pub filled : (u : Text) (args : List ℕ) → Is (form.FilledNewArray u args) → Does (act (face_of p f).under floats (form.FilledNewArray u args) w g)
    filled u args h = λ i v. (
      kept w1 s,
      record {
        stands = gone_on a p o f floats facts base reg w g t (form.FilledNewArray u args) h.has top.stands w1 g1 al.0 al.1 al.2 refl al.3;
        takes = λ s to e. record {
          before = g.position;
          behind = refl;
          at = here (form.FilledNewArray u args) h;
          value = a.made u;
          from = Filled u args;
          holds = subst (λ k. a.holds (a.made u) k (next_object w)) (sym (kind_new w th ∙ array_whole u (untrue2 (is_array u) (or_left (not (is_array u)) (not (text_eq (item_of u) (codes "I") || is_reference (item_of u))) h.right)))) (base.sound.makes u (length w.heap));
        };
      },
    )
      where
        th : Thing
        th = Items (item_of u) (map (register g) args)

        w1 : World
        w1 = with_thing w th

        g1 : Frame
        g1 = next (record g { result = next_object w })

        s : SameFields w w1
        s = same_with w th tt

        al : Along a p facts (face_of p f).under floats base.sound w g x top.stands.hold there arrays (edges a p facts g.position (form.FilledNewArray u args) x) (Goes w1 g1)
        al = act_along a p facts (face_of p f).under floats base.sound w g x top.stands.hold there arrays (form.FilledNewArray u args) tt (looks (form.FilledNewArray u args) h)
