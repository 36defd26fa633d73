-- A method whose entry the facts reach is covered there, and nothing takes a result where none is.
use Rattle.std.proofs.Common.{◌≡◌, ℕ, zero, suc, ◌+◌, ◌-◌, ◌<◌, Bool, true, false, true≢false, List, [], ◌∷◌, ◌++◌, Option, Some, None, ◌⊎◌, inl, inr, refl, sym, ap, ◌∙◌, subst, arith}
use Rattle.std.specs.Prelude.{◌&&◌, length, map, replicate, slice_get, is_some, Contains}
use Rattle.std.specs.Option.{option_and_then}
use Rattle.insn_set.specs.declared.ops.Slot.{Slot}
use Rattle.insn_set.specs.declared.ops.Slot.TheVariants as slot
use Rattle.dalvik_defs.specs.Face.{bodies_of}
use Rattle.dalvik_defs.specs.Outer.{Outer}
use Rattle.dalvik_defs.specs.State.{World, kind_of}
use Rattle.dalvik_defs.specs.Stack.{entry_frame, form_at as form_of}
use Rattle.dalvik_defs.specs.declared.state.Value.{Value}
use Rattle.dalvik_defs.specs.declared.state.Value.TheVariants.{Word}
use Rattle.dalvik_defs.specs.declared.state.Frame.{Frame}
use Rattle.dalvik_defs.specs.declared.names.MethodKey.{MethodKey}
use Rattle.dalvik_defs.specs.declared.forms.Form.{Form}
use Rattle.dalvik_defs.specs.declared.forms.Form.TheVariants as form
use Rattle.dalvik_defs.specs.declared.program.NamedBody.{NamedBody}
use Rattle.dalvik_defs.specs.declared.program.NamedClass.{NamedClass}
use Rattle.dalvik_defs.specs.declared.program.NamedMethod.{NamedMethod}
use Rattle.dalvik_defs.specs.declared.program.NamedProgram.{NamedProgram}
use Rattle.dalvik_defs.specs.declared.tables.Floats.{Floats}
use Rattle.dalvik_defs.specs.declared.tables.Framework.{Framework}
use Rattle.pass_defs.specs.Analysis.{Analysis}
use Rattle.run_facts.specs.Closed.{IsEntered, BeginsAt}
use Rattle.pass_defs.specs.Demands.{is_allowed, result_fits}
use Rattle.pass_defs.specs.Facts.{Facts}
use Rattle.pass_defs.specs.Kinds.{Kind, is_below}
use Rattle.pass_defs.specs.Kinds as kind
use Rattle.pass_defs.specs.Registers.{Kinds, all_below, state_below}
use Rattle.pass_defs.specs.Typed.{Table, IsTyping, state_at, at_state, arrives, after, begun, edges as typed_edges, catches}
use Rattle.pass_defs.specs.Walks.{form_at, onward}
use Rattle.run_facts.specs.Covered.{Sees, SeesAll, TakesFrom, CoversTop}
use Rattle.run_laws.specs.TypedStates.{TypedFrame}
use Rattle.run_laws.proofs.Settled.{IsSettled}
use Rattle.run_laws.proofs.Registers.{and_left, and_right}
use Rattle.run_laws.proofs.Climbs.{none_some, some_one}
use Rattle.run_laws.proofs.Here.{At, each_at, all_in, into_left, into_map}
use Rattle.cover_law.proofs.Ready.{IsReady}

-- ---- positions where there is no result

undefined_only : (p : NamedProgram) (k : Kind) → is_below p kind.Undefined k ≡ true → k ≡ kind.Undefined
undefined_only p kind.Undefined e = refl
undefined_only p kind.Zero e = absurd (true≢false (sym e))
undefined_only p kind.Word e = absurd (true≢false (sym e))
undefined_only p kind.Low e = absurd (true≢false (sym e))
undefined_only p kind.High e = absurd (true≢false (sym e))
undefined_only p kind.Null e = absurd (true≢false (sym e))
undefined_only p (kind.Class t) e = absurd (true≢false (sym e))
undefined_only p (kind.Array t) e = absurd (true≢false (sym e))
undefined_only p kind.Reference e = absurd (true≢false (sym e))
undefined_only p (kind.Fresh t n) e = absurd (true≢false (sym e))
undefined_only p kind.FreshThis e = absurd (true≢false (sym e))

in_range : (xs : List Form) (n : ℕ) (y : Form) → slice_get xs n ≡ Some y → n < length xs
in_range [] n y e = none_some y e
in_range (x ∷ xs) zero y e = omega arith
in_range (x ∷ xs) (suc n) y e = let l = in_range xs n y e in omega (arith, l)

-- where a typing has no result at a position, none is taken there
untaken : (p : NamedProgram) (c : NamedClass) (m : NamedMethod) (b : NamedBody) (tb : Table) → IsTyping p c m b tb → (q : ℕ) (x : Kinds) → x.result ≡ kind.Undefined → state_below p (Some x) (state_at tb q) ≡ true
    → (s : Slot) (to : ℕ) → form_at b q ≡ Some (form.MoveResult s to) → ⊥
untaken p c m b tb typing q x e above s to has = by (state_at tb q) refl above
  where
    fits_none : (s : Slot) (k : Kind) → k ≡ kind.Undefined → result_fits s k ≡ false
    fits_none slot.Word k e = ap (result_fits slot.Word) e
    fits_none slot.Wide k e = ap (result_fits slot.Wide) e
    fits_none slot.Object k e = ap (result_fits slot.Object) e

    by : (z : Option Kinds) → state_at tb q ≡ z → state_below p (Some x) z ≡ true → ⊥
    by None i j = true≢false (sym j)
    by (Some k) i j =
        let r = and_right (all_below p x.registers k.registers) (is_below p x.result k.result) (and_left (all_below p x.registers k.registers && is_below p x.result k.result) (is_below p x.caught k.caught) (and_left (all_below p x.registers k.registers && is_below p x.result k.result && is_below p x.caught k.caught) (is_below p x.receiver k.receiver) j)) in
        let no = undefined_only p k.result (subst (λ z. is_below p z k.result ≡ true) e r) in
        let read = each_at (length b.forms) q (at_state b tb (λ f a. is_allowed p c m a f)) typing.reads (in_range b.forms q (form.MoveResult s to) has) in
        let allowed = sym (ap (λ o. elim o as (λ o. Bool) [ Some y ↦ elim (state_at tb q) as (λ o. Bool) [ Some a ↦ is_allowed p c m a y | None ↦ true ] | None ↦ true ]) has
        ∙ ap (λ o. elim o as (λ o. Bool) [ Some a ↦ is_allowed p c m a (form.MoveResult s to) | None ↦ true ]) i) ∙ read in
        true≢false (sym (and_left (result_fits s k.result) true allowed) ∙ fits_none s k.result no)

module _ {V : Type 0} (a : Analysis V) (p : NamedProgram) (o : Outer) (f : Framework) (floats : Floats) (facts : Facts V) (base : IsReady a p o f floats facts) (reg : IsSettled p) where
  -- the position behind a form that leaves no result takes none
  pub nothing_behind : (w : World) (g : Frame) (t : TypedFrame p f w g) (y : Form) (h : At p o f floats reg w g t y) → (after p t.in_method.class g.position y t.kinds).result ≡ kind.Undefined → Contains (onward y g.position) (g.position + 1)
      → (w1 : World) (g1 : Frame) → g1.method ≡ g.method → g1.position ≡ g.position + 1 → (s : Slot) (to : ℕ) → form_of (bodies_of p) g1 ≡ Some (form.MoveResult s to) → TakesFrom a p o facts w1 g1
  nothing_behind w g t y h e i w1 g1 em ep s to j =
      let x = after p t.in_method.class g.position y t.kinds in
      absurd (untaken p t.in_method.class t.in_method.method t.in_method.body t.in_method.table t.in_method.typing (g.position + 1) x e
      (all_in (arrives p t.in_method.table) (typed_edges p t.in_method.class t.in_method.body g.position y t.kinds) (g.position + 1, x) h.edges
      (into_left (map (λ q. (q, x)) (onward y g.position)) (map (λ h. (h.0, record t.kinds { caught = h.1 })) (catches p t.in_method.body g.position y)) (g.position + 1, x) (into_map (λ q. (q, x)) (onward y g.position) (g.position + 1) i)))
      s to (sym (ap (λ b. option_and_then (λ b. slice_get b.forms g1.position) b) (ap (bodies_of p) (em ∙ t.of) ∙ t.in_method.has_body) ∙ ap (form_at t.in_method.body) ep) ∙ j))

  -- ---- entries

  zeros_then : (m : ℕ) (vs : List Value) (r : ℕ) (v : Value) → slice_get (replicate m (Word 0) ++ vs) r ≡ Some v → ((r < m) × (v ≡ Word 0)) ⊎ ((i : ℕ) × ((r ≡ m + i) × (slice_get vs i ≡ Some v)))
  zeros_then zero vs r v e = inr (r, (plain r, e))
    where
      plain : (r : ℕ) → r ≡ 0 + r
      plain r = omega arith
  zeros_then (suc m) vs zero v e = inl (omega arith, sym (some_one (Word 0) v e))
  zeros_then (suc m) vs (suc r) v e = by (zeros_then m vs r v e)
    where
      by : ((r < m) × (v ≡ Word 0)) ⊎ ((i : ℕ) × ((r ≡ m + i) × (slice_get vs i ≡ Some v))) → ((suc r < suc m) × (v ≡ Word 0)) ⊎ ((i : ℕ) × ((suc r ≡ suc m + i) × (slice_get vs i ≡ Some v)))
      by (inl (l, i)) = inl (omega (arith, l), i)
      by (inr (i, (l, j))) = inr (i, (omega (arith, l), j))

  some_less : (vs : List Value) (i : ℕ) (v : Value) → slice_get vs i ≡ Some v → i < length vs
  some_less [] i v e = none_some v e
  some_less (u ∷ vs) zero v e = omega arith
  some_less (u ∷ vs) (suc i) v e = let l = some_less vs i v e in omega (arith, l)

  -- arguments that the parameters hold of
  abbrev pub Passes : World → MethodKey → List Value → Type 0
  Passes w k vs = (i : ℕ) (v : Value) → slice_get vs i ≡ Some v → Sees a p o facts (facts.parameters k i) w v

  pub entry_top : (w : World) (k : MethodKey) (vs : List Value) (b : NamedBody) → bodies_of p k ≡ Some b → IsEntered a facts k → Passes w k vs → length vs ≡ b.ins → TypedFrame p f w (entry_frame k vs b) → CoversTop a p o facts w (entry_frame k vs b)
  entry_top w k vs b has ent args long t = by (facts.registers k 0) refl ent
    where
      seen : (x : ℕ → V) → BeginsAt a facts k b x → SeesAll a p o facts x w (entry_frame k vs b).registers
      seen x begins r v e = one (zeros_then (b.registers - b.ins) vs r v e)
        where
          one : ((r < b.registers - b.ins) × (v ≡ Word 0)) ⊎ ((i : ℕ) × ((r ≡ b.registers - b.ins + i) × (slice_get vs i ≡ Some v))) → Sees a p o facts (x r) w v
          one (inl (l, i)) = subst (Sees a p o facts (x r) w) (sym i) (base.sound.grows a.any (x r) [] (Word 0) (begins.others r l) (base.sound.all [] (Word 0) (omega arith)))
          one (inr (i, (l, j))) = subst (λ r. Sees a p o facts (x r) w v) (sym l) (base.sound.grows (facts.parameters k i) (x (b.registers - b.ins + i)) (kind_of w v) v (begins.arguments i (let z = some_less vs i v j in omega (arith, z, long))) (args i v j))

      by : (z : Option (ℕ → V)) → facts.registers k 0 ≡ z → is_some z ≡ true → CoversTop a p o facts w (entry_frame k vs b)
      by None i j = absurd (true≢false (sym j))
      by (Some x) i j = record {
        stands = record { registers = x; reached = i; hold = seen x (base.closed.begins k b x has i) };
        takes = λ s to l. absurd (untaken p t.in_method.class t.in_method.method t.in_method.body t.in_method.table t.in_method.typing 0 (begun p t.in_method.class t.in_method.method t.in_method.body) refl t.in_method.typing.entry s to
            (sym (ap (λ b. option_and_then (λ b. slice_get b.forms 0) b) (ap (bodies_of p) t.of ∙ t.in_method.has_body)) ∙ l));
      }
