-- The methods that a plan makes static may all be static by name.
use Rattle.std.proofs.Common.{◌≡◌, ◌⊎◌, inl, inr, ℕ, Bool, true, false, List, [], ◌∷◌, Option, Some, None, refl, sym, ap, ◌∙◌, subst}
use Rattle.std.specs.Prelude.{◌&&◌, ◌||◌, is_some, slice_get, slice_index_or}
use Rattle.lemmas.proofs.Bools.{clash, not_true, or_cases}
use Rattle.insn_set.specs.declared.ops.InvokeKind.{InvokeKind}
use Rattle.insn_set.specs.declared.ops.InvokeKind.TheVariants as call
use Rattle.program_model.specs.MemberRules.{is_direct}
use Rattle.program_model.specs.ProgramRules.{is_well_formed}
use Rattle.program_model.specs.declared.pass.Outside.{Outside}
use Rattle.program_model.specs.declared.program.Program.{Program}
use Rattle.class_defs.specs.ClassGraph.{IsAncestor, IsTwice}
use Rattle.class_defs.proofs.WellFormed.{Sound, sound}
use Rattle.dalvik_defs.specs.Face.{bodies_of}
use Rattle.dalvik_defs.specs.Find.{is_virtual_method}
use Rattle.dalvik_defs.specs.Names.{Text, is_class_type}
use Rattle.dalvik_defs.specs.Naming.{method_at, named, named_class, named_method, type_at}
use Rattle.dalvik_defs.specs.Outer.{outer_of}
use Rattle.dalvik_defs.specs.Under.{defines}
use Rattle.dalvik_defs.specs.declared.forms.Form.TheVariants as form
use Rattle.dalvik_defs.specs.declared.names.MethodKey.{MethodKey}
use Rattle.dalvik_defs.specs.declared.program.NamedBody.{NamedBody}
use Rattle.facts.specs.declared.facts.Facts.{Facts}
use Rattle.name_bridge.proofs.Found.{virtual_test}
use Rattle.pass_defs.specs.Loose.{concerns, is_plain_call}
use Rattle.pass_defs.specs.Numbered.{tables_of}
use Rattle.pass_defs.specs.Walks.{form_at}
use Rattle.removal_law.specs.Reach.{IsRegular}
use Rattle.removal_bridge.proofs.Formed.{regular_program}
use Rattle.static_law.specs.Static.{IsApart, MayAllBeStatic, MayBeStatic, has_receiver}
use Rattle.static_law.specs.Edited.{loose_in}
use Rattle.static_law.proofs.Candidates.{candidate_static}
use Rattle.static_law.proofs.Tables.{loose_from}
use Rattle.static_law.proofs.Targets.{key_there}
use Rattle.loose_methods.specs.Loose as number
use Rattle.loose_methods.specs.Loose.{is_alone}
use Rattle.staticise.specs.Called.{IsCall}
use Rattle.staticise.specs.Judging.{judged}
use Rattle.static_kept.specs.Choice.{IsPlan, given_by}
use Rattle.static_kept.proofs.Apart.{apart}
use Rattle.static_kept.proofs.Calls.{concerns_number, plain_named}
use Rattle.static_kept.proofs.Coded.{CallAt, call_at}
use Rattle.static_kept.proofs.MadeStatic.{IsChosen, IsMethod, chosen}
use Rattle.static_kept.proofs.Own.{MayBe}
use Rattle.static_kept.proofs.Planned.{candidate, may}

-- a receiver that facts know is one
receiver_known : (facts : Facts) (method position : ℕ) (kind : InvokeKind) (args : List ℕ) → number.has_receiver facts method position kind args ≡ true → has_receiver kind args ≡ true
receiver_known facts method position call.Static args h = h
receiver_known facts method position call.Virtual [] h = h
receiver_known facts method position call.Virtual (r ∷ args) h = refl
receiver_known facts method position call.Super [] h = h
receiver_known facts method position call.Super (r ∷ args) h = refl
receiver_known facts method position call.Direct [] h = h
receiver_known facts method position call.Direct (r ∷ args) h = refl
receiver_known facts method position call.Interface [] h = h
receiver_known facts method position call.Interface (r ∷ args) h = refl

module _ (p : Program) (facts : Facts) (o : Outside) (admitted : List Bool) (w : is_well_formed p ≡ true) (twice : (class : ℕ) → IsTwice p class → ⊥) (ancestor : (class : ℕ) → IsAncestor p class class → ⊥) (plan : IsPlan p facts o admitted) where
  s : Sound p
  s = sound p w

  abbrev given : ℕ → Option ℕ
  given n = given_by p facts o admitted n

  class_types : (t : Text) → defines (named p) t ≡ true → is_class_type t ≡ true
  class_types t e = (regular_program p w twice ancestor).names t e

  -- what is known of a call that concerns a chosen method, by number
  pub record KnownCall (n : ℕ) (caller : MethodKey) (i : ℕ) (kind : InvokeKind) (k : MethodKey) (args : List ℕ) : Type 0 where
    pub stands : CallAt p caller i kind k args
    pub plain : number.is_plain_call p n stands.place kind stands.called stands.entry ≡ true
    pub receiver : number.has_receiver facts stands.method.name i kind args ≡ true

  class_of : (caller : MethodKey) (i : ℕ) (kind : InvokeKind) (k : MethodKey) (args : List ℕ) (x : CallAt p caller i kind k args) → caller.class ≡ type_at p x.class.name
  class_of caller i kind k args x = ap (λ (z : MethodKey). z.class) x.key

  pub call_known : (n v : ℕ) → given n ≡ Some v → (caller : MethodKey) (b : NamedBody) (i : ℕ) (kind : InvokeKind) (k : MethodKey) (args : List ℕ) → bodies_of (named p) caller ≡ Some b
      → form_at b i ≡ Some (form.Invoke kind k args) → concerns (named p) (method_at p n) caller.class kind k ≡ true → KnownCall n caller i kind k args
  call_known n v g caller b i kind k args e f h =
      let c : IsChosen p facts o admitted (judged p facts o admitted) n v = (chosen p facts o admitted plan).given n v g in
      let x : CallAt p caller i kind k args = call_at p s caller b i kind k args e f in
      let by_number = concerns_number p w twice ancestor x.called x.entry x.is_entry x.place x.class x.is_class n c.stands kind
      (subst (λ z. concerns (named p) (method_at p n) (type_at p x.class.name) kind z ≡ true) (sym x.names) (subst (λ t. concerns (named p) (method_at p n) t kind k ≡ true) (class_of caller i kind k args x) h)) in
      let r = plan.known.each n x.place x.at i x.method kind x.called args x.entry (ap is_some g) (record { class = x.class; body = x.body; is_class = x.is_class; is_method = x.is_method; is_body = x.is_body; is_call = x.is_call }) x.is_entry by_number in
      record { stands = x; plain = r.1.0; receiver = r.1.1 }

  calls_so : (n v : ℕ) → given n ≡ Some v → (caller : MethodKey) (b : NamedBody) (i : ℕ) (kind : InvokeKind) (k : MethodKey) (args : List ℕ) → bodies_of (named p) caller ≡ Some b
      → form_at b i ≡ Some (form.Invoke kind k args) → concerns (named p) (method_at p n) caller.class kind k ≡ true → (has_receiver kind args ≡ true) × (is_plain_call (named p) (method_at p n) caller.class kind k ≡ true)
  calls_so n v g caller b i kind k args e f h =
      let c : IsChosen p facts o admitted (judged p facts o admitted) n v = (chosen p facts o admitted plan).given n v g in
      let r : KnownCall n caller i kind k args = call_known n v g caller b i kind k args e f h in
      let x : CallAt p caller i kind k args = r.stands in (
        receiver_known facts x.method.name i kind args r.receiver,
        subst (λ t. is_plain_call (named p) (method_at p n) t kind k ≡ true) (sym (class_of caller i kind k args x)) (subst (λ z. is_plain_call (named p) (method_at p n) (type_at p x.class.name) kind z ≡ true) x.names
            (plain_named p w twice ancestor x.called x.entry x.is_entry x.place x.class x.is_class n c.stands kind r.plain)),
      )

  pub own_class : (n : ℕ) (m : IsMethod p n) → (method_at p n).class ≡ type_at p m.class.name
  own_class n m = ap (λ (z : MethodKey). z.class) (ap (method_at p) (sym m.number) ∙ sym (key_there (λ n. None) p s twice m.place m.class m.is_class m.at m.method m.is_method))

  apart_so : (n v : ℕ) → given n ≡ Some v → (c : IsChosen p facts o admitted (judged p facts o admitted) n v) → is_virtual_method (named_method p c.stands.method) ≡ true → IsApart (named p) (method_at p n)
  apart_so n v g c h = apart p w twice ancestor n c.stands (own_class n c.stands) (by (or_cases (is_direct p c.stands.method) (is_alone p c.stands.entry c.stands.place) known.alone))
    where
      known : MayBe p facts o admitted c.stands.place c.stands.class c.stands.entry c.stands.method
      known = may p facts o admitted s twice (chosen p facts o admitted plan) n v c

      by : (is_direct p c.stands.method ≡ true) ⊎ (is_alone p c.stands.entry c.stands.place ≡ true) → is_alone p c.stands.entry c.stands.place ≡ true
      by (inr e) = e
      by (inl e) = clash (is_direct p c.stands.method) e (not_true (is_direct p c.stands.method) (sym (virtual_test p c.stands.method) ∙ h))

  pub all_may : MayAllBeStatic (named p) (outer_of p o) (tables_of p).methods (loose_in p given)
  all_may k l =
      let r = loose_from given p s k l in
      subst (λ z. MayBeStatic (named p) (outer_of p o) (tables_of p).methods z) r.1.1.1 (by r.0 (given r.0) refl r.1.1.0)
    where
      by : (n : ℕ) (x : Option ℕ) → given n ≡ x → is_some x ≡ true → MayBeStatic (named p) (outer_of p o) (tables_of p).methods (method_at p n)
      by n None g h = clash false h refl
      by n (Some v) g h = candidate_static p s twice class_types o n (candidate p facts o admitted s twice (chosen p facts o admitted plan) n v g)
          (apart_so n v g ((chosen p facts o admitted plan).given n v g)) (calls_so n v g)
