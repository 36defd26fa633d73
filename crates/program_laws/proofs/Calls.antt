-- Calls of a program and of the one with renamed methods: a call that stays finds the same, and no renamed method; a call
-- that is made static finds a renamed method, on a receiver that isn't null, and the static call finds it by its new name,
-- in a class that is ready.
use Rattle.std.proofs.Common.{◌≡◌, Bool, true, false, List, None, refl, sym, ap, ◌∙◌}
use Rattle.std.specs.Prelude.{◌&&◌}
use Rattle.insn_set.specs.declared.ops.InvokeKind.{InvokeKind}
use Rattle.insn_set.specs.declared.ops.InvokeKind.TheVariants as call
use Rattle.dalvik_defs.specs.Names.{Text, method_eq, object_constructor}
use Rattle.dalvik_defs.specs.Flags.{is_static, is_native}
use Rattle.dalvik_defs.specs.Find.{Found, Search, Nothing, Clash, Finds}
use Rattle.dalvik_defs.specs.Face.{Face}
use Rattle.dalvik_defs.specs.State.{World, kind_of, is_null}
use Rattle.dalvik_defs.specs.declared.state.Value.{Value}
use Rattle.dalvik_defs.specs.declared.state.Value.TheVariants.{Word}
use Rattle.dalvik_defs.specs.declared.state.Frame.{Frame}
use Rattle.dalvik_defs.specs.Effect.{next}
use Rattle.dalvik_defs.specs.Outcome.{Outcome, Stays, Enters, Need, Ready, Fresh, Broken, faults, when_ready, takes_no_receiver, is_direct, calls_out, calls_uncoded, calls_found, calls_ready, calls_by, receiver, on_receiver, calls}
use Rattle.dalvik_defs.specs.Known.{null_pointer}
use Rattle.dalvik_defs.specs.declared.names.MethodKey.{MethodKey}
use Rattle.program_laws.specs.Renames.{frame_named, outcome_named, searched, Kept, MadeStatic, CallAlike, KeepsCall, TurnsCall}

module _ (rename : MethodKey → MethodKey) (w : World) (f : Frame) (need : Text → Need) where
  abbrev g : Frame
  g = frame_named rename f

  receiver_named : (vs : List Value) (x y : Outcome) → x ≡ outcome_named rename y → on_receiver vs w x ≡ outcome_named rename (on_receiver vs w y)
  receiver_named vs x y e = by (is_null (receiver vs))
    where
      by : (b : Bool) → elim b as (λ b. Outcome) [ true ↦ faults w null_pointer | false ↦ x ] ≡ outcome_named rename (elim b as (λ b. Outcome) [ true ↦ faults w null_pointer | false ↦ y ])
      by true = refl
      by false = e

  -- ---- a call that stays

  uncoded_named : (kind : InvokeKind) (x : Found) (vs : List Value) (b : Bool) (o : Outcome) → o ≡ outcome_named rename o → rename x.key ≡ x.key
      → elim b as (λ b. Outcome) [ true ↦ Enters x.key vs | false ↦ o ] ≡ outcome_named rename (elim b as (λ b. Outcome) [ true ↦ Enters x.key vs | false ↦ o ])
  uncoded_named kind x vs true o d e = ap (λ k. Enters k vs) (sym e)
  uncoded_named kind x vs false o d e = d

  out_named : (b : Bool) (x y : Outcome) → x ≡ outcome_named rename x → y ≡ outcome_named rename y
      → elim b as (λ b. Outcome) [ true ↦ x | false ↦ y ] ≡ outcome_named rename (elim b as (λ b. Outcome) [ true ↦ x | false ↦ y ])
  out_named true x y d e = d
  out_named false x y d e = e

  found_named : (kind : InvokeKind) (x : Found) (vs : List Value) → rename x.key ≡ x.key → calls_found kind x vs w ≡ outcome_named rename (calls_found kind x vs w)
  found_named kind x vs e = uncoded_named kind x vs x.coded (calls_uncoded kind x vs w) (out_named (is_native x.flags) _ _ refl refl) e

  when_named : (n : Need) (t : Text) (x : Outcome) → x ≡ outcome_named rename x → when_ready n w t x ≡ outcome_named rename (when_ready n w t x)
  when_named Ready t x e = e
  when_named Fresh t x e = refl
  when_named Broken t x e = refl

  by_search : (kind : InvokeKind) (k : MethodKey) (vs : List Value) (s : Search) → ((x : Found) → s ≡ Finds x → rename x.key ≡ x.key) → calls_by need kind k vs w g s ≡ outcome_named rename (calls_by need kind k vs w f s)
  by_search kind k vs Nothing h = out_of (is_direct kind && method_eq k object_constructor)
    where
      out_of : (b : Bool) → elim b as (λ b. Outcome) [ true ↦ Stays w (next (record g { result = Word 0 })) None | false ↦ calls_out kind (takes_no_receiver kind) k vs w ]
          ≡ outcome_named rename (elim b as (λ b. Outcome) [ true ↦ Stays w (next (record f { result = Word 0 })) None | false ↦ calls_out kind (takes_no_receiver kind) k vs w ])
      out_of true = refl
      out_of false = refl
  by_search kind k vs Clash h = refl
  by_search kind k vs (Finds x) h = out_named (is_static x.flags) _ _ (when_named (need x.key.class) x.key.class _ (found_named kind x vs (h x refl))) (found_named kind x vs (h x refl))

  -- any call, by what it finds
  abbrev receives_if : Bool → List Value → Outcome → Outcome
  receives_if true vs o = o
  receives_if false vs o = on_receiver vs w o

  abbrev called : Face → InvokeKind → MethodKey → List Value → Frame → Outcome
  called face kind k vs h = receives_if (takes_no_receiver kind) vs (calls_by need kind k vs w h (searched face h.method.class kind (kind_of w (receiver vs)) k))

  by_kind : (face : Face) (kind : InvokeKind) (k : MethodKey) (vs : List Value) (h : Frame) → calls face need kind k vs w h ≡ called face kind k vs h
  by_kind face call.Static k vs h = refl
  by_kind face call.Direct k vs h = refl
  by_kind face call.Super k vs h = refl
  by_kind face call.Virtual k vs h = refl
  by_kind face call.Interface k vs h = refl

  receives_named : (b : Bool) (vs : List Value) (x y : Outcome) → x ≡ outcome_named rename y → receives_if b vs x ≡ outcome_named rename (receives_if b vs y)
  receives_named true vs x y e = e
  receives_named false vs x y e = receiver_named vs x y e

  module _ (F G : Face) (same_class : (k : MethodKey) → (rename k).class ≡ k.class) where
    kept : (kind : InvokeKind) (k : MethodKey) (vs : List Value) → Kept rename F G f.method.class kind (kind_of w (receiver vs)) k → calls G need kind k vs w g ≡ outcome_named rename (calls F need kind k vs w f)
    kept kind k vs h = let t = kind_of w (receiver vs) in
        by_kind G kind k vs g
        ∙ ap (λ c. receives_if (takes_no_receiver kind) vs (calls_by need kind k vs w g (searched G c kind t k))) (same_class f.method)
        ∙ ap (λ s. receives_if (takes_no_receiver kind) vs (calls_by need kind k vs w g s)) h.same
        ∙ receives_named (takes_no_receiver kind) vs _ _ (by_search kind k vs (searched F f.method.class kind t k) h.unnamed)
        ∙ ap (outcome_named rename) (sym (by_kind F kind k vs f))

    -- ---- a call that is made static

    plain_entry : (kind : InvokeKind) (x : Found) (vs : List Value) → is_static x.flags ≡ false → x.coded ≡ true → calls_ready need kind x vs w ≡ Enters x.key vs
    plain_entry kind x vs e d =
        ap (λ b. elim b as (λ b. Outcome) [ true ↦ when_ready (need x.key.class) w x.key.class (calls_found kind x vs w) | false ↦ calls_found kind x vs w ]) e
        ∙ ap (λ b. elim b as (λ b. Outcome) [ true ↦ Enters x.key vs | false ↦ calls_uncoded kind x vs w ]) d

    ready_entry : (x : Found) (vs : List Value) → need x.key.class ≡ Ready → x.coded ≡ true → calls_ready need call.Static x vs w ≡ Enters x.key vs
    ready_entry x vs e d =
        by (is_static x.flags)
        ∙ ap (λ b. elim b as (λ b. Outcome) [ true ↦ Enters x.key vs | false ↦ calls_uncoded call.Static x vs w ]) d
      where
        by : (b : Bool) → elim b as (λ b. Outcome) [ true ↦ when_ready (need x.key.class) w x.key.class (calls_found call.Static x vs w) | false ↦ calls_found call.Static x vs w ] ≡ calls_found call.Static x vs w
        by true = ap (λ n. when_ready n w x.key.class (calls_found call.Static x vs w)) e
        by false = refl

    received : (b : Bool) (vs : List Value) (o : Outcome) → (b ≡ false → is_null (receiver vs) ≡ false) → receives_if b vs o ≡ o
    received true vs o h = refl
    received false vs o h = ap (λ b. elim b as (λ b. Outcome) [ true ↦ faults w null_pointer | false ↦ o ]) (h refl)

    turned : (kind : InvokeKind) (k k' : MethodKey) (vs : List Value) (m : MadeStatic rename F G f.method.class kind (kind_of w (receiver vs)) (is_null (receiver vs)) k k')
        → need m.new.key.class ≡ Ready → calls G need call.Static k' vs w g ≡ outcome_named rename (calls F need kind k vs w f)
    turned kind k k' vs m n =
        ap (calls_by need call.Static k' vs w g) m.finds_new
        ∙ ready_entry m.new vs n m.still_coded
        ∙ ap (λ x. Enters x vs) m.key
        ∙ ap (outcome_named rename) (sym (plain_entry kind m.found vs m.receives m.coded))
        ∙ ap (λ s. outcome_named rename (calls_by need kind k vs w f s)) (sym m.finds)
        ∙ ap (outcome_named rename) (sym (received (takes_no_receiver kind) vs (calls_by need kind k vs w f (searched F f.method.class kind (kind_of w (receiver vs)) k)) m.given))
        ∙ ap (outcome_named rename) (sym (by_kind F kind k vs f))

    pub calls_alike : (kind : InvokeKind) (k : MethodKey) (vs : List Value) (e : InvokeKind × MethodKey) (ready : Text → Type 0) → ((t : Text) → ready t → need t ≡ Ready) → CallAlike rename F G ready f.method.class kind (kind_of w (receiver vs)) (is_null (receiver vs)) k e
        → calls G need e.0 e.1 vs w g ≡ outcome_named rename (calls F need kind k vs w f)
    calls_alike kind k vs e ready r (KeepsCall h) = kept kind k vs h
    calls_alike kind k vs e ready r (TurnsCall k' m n) = turned kind k k' vs m (r m.new.key.class n)
