-- A call that resolves to a method that is made static has a receiver that facts know as not null.
use Rattle.std.proofs.Common.{◌≡◌, ℕ, zero, suc, ◌+◌, ◌<◌, Bool, true, false, List, [], ◌∷◌, Option, Some, None, refl, sym, ap, ◌∙◌, subst}
use Rattle.std.specs.Prelude.{◌&&◌, ◌||◌, is_some, length, slice_get, nat_lt, ◌-◌}
use Rattle.std.specs.List.{list_all, list_any, enumerate_from}
use Rattle.lemmas.proofs.Bools.{and_left, and_right, clash, or_left}
use Rattle.lemmas.proofs.Options.{none_some, some_same}
use Rattle.insn_set.specs.Spelling.{is_encodable}
use Rattle.insn_set.specs.declared.form.Insn.{Insn}
use Rattle.insn_set.specs.declared.form.Insn.TheVariants as insn
use Rattle.insn_set.specs.declared.ops.InvokeKind.{InvokeKind}
use Rattle.insn_set.specs.declared.ops.InvokeKind.TheVariants as call
use Rattle.program_model.specs.BodyRules.{body_fits, ends, follows, insn_fits, is_caught, leaves, targets_fit}
use Rattle.program_model.specs.Neighbours.{neighbours}
use Rattle.program_model.specs.OperandRules.{are_registers, numbers_fit, registers_fit}
use Rattle.program_model.specs.ProgramRules.{is_well_formed}
use Rattle.program_model.specs.RegionRules.{may_begin, regions_fit}
use Rattle.program_model.specs.declared.body.Body.{Body}
use Rattle.program_model.specs.declared.pass.Outside.{Outside}
use Rattle.program_model.specs.declared.program.Program.{Program}
use Rattle.class_defs.specs.ClassGraph.{IsAncestor, IsTwice}
use Rattle.class_defs.proofs.WellFormed.{Sound, all_at, below, sound}
use Rattle.dalvik_defs.specs.Face.{bodies_of}
use Rattle.dalvik_defs.specs.Find.{Found, resolves_method}
use Rattle.dalvik_defs.specs.Names.{method_eq}
use Rattle.dalvik_defs.specs.Naming.{method_at, named}
use Rattle.dalvik_defs.specs.declared.forms.Form.TheVariants as form
use Rattle.dalvik_defs.specs.declared.names.MethodKey.{MethodKey}
use Rattle.dalvik_defs.specs.declared.program.NamedBody.{NamedBody}
use Rattle.dom_frame.specs.declared.frames.Frame.{Frame}
use Rattle.dom_frame.specs.Registers.{value_at}
use Rattle.domains.specs.declared.nulls.Nullness.{Nullness}
use Rattle.domains.specs.declared.nulls.Nullness.TheVariants as null
use Rattle.facts.specs.Lent.{frame_at}
use Rattle.facts.specs.declared.facts.Facts.{Facts}
use Rattle.pass_defs.specs.Calls.{may_find}
use Rattle.pass_defs.specs.Loose.{HasReceiver, concerns, names_it}
use Rattle.pass_defs.specs.Walks.{form_at}
use Rattle.removal_law.proofs.Declared.{method_same}
use Rattle.removal_bridge.proofs.Listed.{method_fits_at}
use Rattle.static_law.specs.Receiving.{KnowsReceivers}
use Rattle.static_law.specs.Edited.{loose_in}
use Rattle.static_law.proofs.Classes.{contains_at}
use Rattle.static_law.proofs.Fitting.{body_of_code, method_holds}
use Rattle.static_law.proofs.Tables.{loose_from}
use Rattle.loose_methods.specs.Loose as number
use Rattle.static_kept.specs.Choice.{IsPlan, given_by}
use Rattle.static_kept.proofs.Coded.{CallAt}
use Rattle.static_kept.proofs.May.{KnownCall, call_known}
use Rattle.static_kept.specs.Knows.{KnowsNotNull, holds_no_null, is_not_null, knows_not_null}

-- the same of a register by both names
not_null_same : (x : Nullness) → number.is_not_null x ≡ is_not_null x
not_null_same null.Bottom = refl
not_null_same null.Null = refl
not_null_same null.NotNull = refl
not_null_same null.Any = refl

holds_same : (o : Option Frame) (r : ℕ) → number.holds_no_null o r ≡ holds_no_null o r
holds_same None r = refl
holds_same (Some f) r = not_null_same (value_at f.registers r).nullness

module _ (p : Program) (facts : Facts) (s : Sound p) where
  -- the registers of a call are some of its body's
  insn_registers : (b : Body) (at : ℕ × Insn) → insn_fits p b at ≡ true → registers_fit at.1 b.registers ≡ true
  unfolding insn_fits
  insn_registers b at h = and_left (registers_fit at.1 b.registers) (numbers_fit at.1 p) (and_right (is_encodable at.1) (registers_fit at.1 b.registers && numbers_fit at.1 p)
      (and_left (is_encodable at.1 && (registers_fit at.1 b.registers && numbers_fit at.1 p)) (targets_fit b.insns at.1 && (leaves at.0 at.1 && is_caught b.regions at.0 at.1)) h))

  all_insns : (b : Body) → body_fits p b ≡ true → list_all (insn_fits p b) (enumerate_from 0 b.insns) ≡ true
  unfolding body_fits
  all_insns b h = and_left (list_all (insn_fits p b) (enumerate_from 0 b.insns)) (regions_fit p b.insns b.regions)
      (and_right (list_all follows (neighbours b.insns)) (list_all (insn_fits p b) (enumerate_from 0 b.insns) && regions_fit p b.insns b.regions)
      (and_right (may_begin (slice_get b.insns 0) && ends (slice_get b.insns (length b.insns - 1))) (list_all follows (neighbours b.insns) && (list_all (insn_fits p b) (enumerate_from 0 b.insns) && regions_fit p b.insns b.regions)) h))

  one_insn : (b : Body) (is : List Insn) (m n : ℕ) (i : Insn) → list_all (insn_fits p b) (enumerate_from m is) ≡ true → slice_get is n ≡ Some i → registers_fit i b.registers ≡ true
  one_insn b [] m n i h e = none_some i e
  one_insn b (x ∷ is) m zero i h e = subst (λ z. registers_fit z b.registers ≡ true) (some_same x i e) (insn_registers b (m, x) (and_left (insn_fits p b (m, x)) (list_all (insn_fits p b) (enumerate_from (m + 1) is)) h))
  one_insn b (x ∷ is) m (suc n) i h e = one_insn b is (m + 1) n i (and_right (insn_fits p b (m, x)) (list_all (insn_fits p b) (enumerate_from (m + 1) is)) h) e

  call_registers : (kind : InvokeKind) (called r : ℕ) (args : List ℕ) (n : ℕ) → registers_fit (insn.Invoke kind called (r ∷ args)) n ≡ true → r < n
  unfolding registers_fit
  call_registers kind called r args n h = below r n (and_left (nat_lt r n) (are_registers args n) h)

  -- a register that holds none is known as not null
  knows : (caller : MethodKey) (n : ℕ) (kind : InvokeKind) (k : MethodKey) (r : ℕ) (args : List ℕ) (x : CallAt p caller n kind k (r ∷ args)) → number.knows_not_null facts x.method.name n r ≡ true → KnowsNotNull p facts caller n r
  knows caller n kind k r args x h = record {
    place = x.place;
    class = x.class;
    method = x.method;
    body = x.body;
    is_class = x.is_class;
    in_class = contains_at x.class.methods x.at x.method x.is_method;
    key = x.key;
    has = x.is_body;
    short = call_registers kind x.called r args x.body.registers (one_insn x.body x.body.insns 0 n (insn.Invoke kind x.called (r ∷ args))
        (all_insns x.body (body_of_code p x.method x.body x.is_body (method_holds p x.class.name x.method (method_fits_at p s x.place x.class x.is_class x.at x.method x.is_method)).code)) x.is_call);
    knows = sym (holds_same (frame_at facts.frames.items x.method.name n) r) ∙ h;
  }

  receives : (caller : MethodKey) (n : ℕ) (kind : InvokeKind) (k : MethodKey) (args : List ℕ) (x : CallAt p caller n kind k args) → number.has_receiver facts x.method.name n kind args ≡ true → HasReceiver (KnowsNotNull p facts) caller n kind args
  receives caller n call.Static k args x h = clash false h refl
  receives caller n call.Virtual k [] x h = clash false h refl
  receives caller n call.Virtual k (r ∷ args) x h = knows caller n call.Virtual k r args x h
  receives caller n call.Super k [] x h = clash false h refl
  receives caller n call.Super k (r ∷ args) x h = knows caller n call.Super k r args x h
  receives caller n call.Direct k [] x h = clash false h refl
  receives caller n call.Direct k (r ∷ args) x h = knows caller n call.Direct k r args x h
  receives caller n call.Interface k [] x h = clash false h refl
  receives caller n call.Interface k (r ∷ args) x h = knows caller n call.Interface k r args x h

module _ (p : Program) (facts : Facts) (o : Outside) (admitted : List Bool) (w : is_well_formed p ≡ true) (twice : (class : ℕ) → IsTwice p class → ⊥) (ancestor : (class : ℕ) → IsAncestor p class class → ⊥) (plan : IsPlan p facts o admitted) where
  abbrev given : ℕ → Option ℕ
  given n = given_by p facts o admitted n

  pub knows_receivers : KnowsReceivers (named p) (loose_in p given) (KnowsNotNull p facts)
  knows_receivers caller b n kind k args h e f g l =
      let x = loose_from given p (sound p w) h.key l in
      by x.0 (given x.0) refl x.1.1.0 x.1.1.1
    where
      by : (j : ℕ) (v : Option ℕ) → given j ≡ v → is_some v ≡ true → method_at p j ≡ h.key → HasReceiver (KnowsNotNull p facts) caller n kind args
      by j None i s m = clash false s refl
      by j (Some v) i s m =
          let named_so : names_it (named p) (method_at p j) k ≡ true = ap (λ o. elim o as (λ o. Bool) [ Some y ↦ method_eq y.key (method_at p j) | None ↦ method_eq k (method_at p j) ]) g
          ∙ (ap (λ z. method_eq z (method_at p j)) (sym m) ∙ method_same (method_at p j)) in
          let r : KnownCall p facts o admitted w twice ancestor plan j caller n kind k args = call_known p facts o admitted w twice ancestor plan j v i caller b n kind k args e f
          (or_left (names_it (named p) (method_at p j) k) (list_any (λ (y : Found). method_eq y.key (method_at p j)) (may_find (named p) caller.class kind k)) named_so) in
          receives p facts (sound p w) caller n kind k args r.stands r.receiver
