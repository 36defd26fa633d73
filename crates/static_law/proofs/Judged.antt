-- The loose methods of a program are methods that may be static.
use Rattle.std.proofs.Common.{◌≡◌, ℕ, Bool, true, false, List, [], ◌∷◌, Some, None, refl, sym, ap, ◌∙◌, subst}
use Rattle.std.specs.Prelude.{◌&&◌, ◌||◌, not}
use Rattle.std.specs.List.{list_any}
use Rattle.program_model.specs.declared.program.Program.{Program}
use Rattle.insn_set.specs.declared.ops.InvokeKind.{InvokeKind}
use Rattle.insn_set.specs.declared.ops.InvokeKind.TheVariants as call
use Rattle.dalvik_defs.specs.Names.{method_eq, same_name, is_common}
use Rattle.dalvik_defs.specs.Under.{is_outward}
use Rattle.dalvik_defs.specs.Outer.{Outer}
use Rattle.dalvik_defs.specs.declared.names.MethodKey.{MethodKey}
use Rattle.dalvik_defs.specs.declared.program.NamedProgram.{NamedProgram}
use Rattle.pass_defs.specs.Loose.{new_signature, has_rival, is_in_interface, is_alone, classes_under, is_plain_call, methods_of, with_new, or_this, HasReceiver, IsLoose, AreLooseFrom, AreLoose}
use Rattle.pass_defs.specs.Calls.{may_find}
use Rattle.pass_defs.specs.Numbered.{Tables, tables_of}
use Rattle.removal_law.specs.Left.{In, here, there}
use Rattle.removal_law.proofs.Lists.{clash, and_left, and_behind}
use Rattle.removal_law.proofs.Declared.{method_same, method_sound, not_false}
use Rattle.removal_law.proofs.Outward.{any_where}
use Rattle.static_law.specs.Receiving.{KnowsReceivers}
use Rattle.static_law.specs.Static.{IsApart, has_receiver, MayAllBeStatic}

-- nothing common, and no framework ancestor of a class under its own
alone_apart : (p : NamedProgram) (k : MethodKey) → is_alone p k ≡ true → IsApart p k
alone_apart p k e =
    let a = not (has_rival p k) in
    let b = not (is_common k.name k.signature) in
    let c = not (is_in_interface p k) in
    let d = not (list_any (λ c. is_outward p c.name) (classes_under p k.class)) in record {
      unrivalled = not_false (has_rival p k) (and_left a b (and_left (a && b) c (and_left (a && b && c) d e)));
      uncommon = not_false (is_common k.name k.signature) (and_behind a b (and_left (a && b) c (and_left (a && b && c) d e)));
      inside = not_false (list_any (λ c. is_outward p c.name) (classes_under p k.class)) (and_behind (a && b && c) d e);
    }

receives : (not_null : MethodKey → ℕ → ℕ → Type 0) (caller : MethodKey) (n : ℕ) (kind : InvokeKind) (args : List ℕ) → HasReceiver not_null caller n kind args → has_receiver kind args ≡ true
receives not_null caller n call.Static args h = absurd h
receives not_null caller n call.Direct [] h = absurd h
receives not_null caller n call.Super [] h = absurd h
receives not_null caller n call.Virtual [] h = absurd h
receives not_null caller n call.Interface [] h = absurd h
receives not_null caller n call.Direct (r ∷ args) h = refl
receives not_null caller n call.Super (r ∷ args) h = refl
receives not_null caller n call.Virtual (r ∷ args) h = refl
receives not_null caller n call.Interface (r ∷ args) h = refl

module _ (base : Program) (p : NamedProgram) (o : Outer) (optimise : Bool) (fits : Program → Type 0) (admitted : MethodKey → Bool) (not_null : MethodKey → ℕ → ℕ → Type 0) (loose : MethodKey → Bool) where
  abbrev IsIt : Tables → (MethodKey → Bool) → MethodKey → Type 0
  IsIt tables earlier k = IsLoose base p o optimise fits admitted not_null tables earlier k

  abbrev From : Tables → (MethodKey → Bool) → List MethodKey → Type 0
  From tables earlier ks = AreLooseFrom base p o optimise fits admitted not_null tables earlier loose ks

  -- a method is loose behind those before it, over the same table of methods
  pub record IsJudged (k : MethodKey) : Type 0 where
    pub tables : Tables
    pub earlier : MethodKey → Bool
    pub methods : tables.methods ≡ (tables_of base).methods
    pub judged : IsIt tables earlier k

  judged_in : (ks : List MethodKey) (tables : Tables) (earlier : MethodKey → Bool) → tables.methods ≡ (tables_of base).methods → From tables earlier ks → (k : MethodKey) → In k ks → loose k ≡ true → IsJudged k
  judged_in [] tables earlier e h k i l = elim i [ ]
  judged_in (x ∷ ks) tables earlier e h k i l = by (loose x) refl h (λ t f d g. judged_in ks t f d g) k i l
    where
      by : (b : Bool) → loose x ≡ b → elim b as (λ b. Type 0) [ true ↦ IsIt tables earlier x × From (with_new tables x) (or_this earlier x) ks | false ↦ From tables earlier ks ]
          → ((t : Tables) (f : MethodKey → Bool) → t.methods ≡ (tables_of base).methods → From t f ks → (k : MethodKey) → In k ks → loose k ≡ true → IsJudged k)
          → (k : MethodKey) → In k (x ∷ ks) → loose k ≡ true → IsJudged k
      by true i h more k (here zs) l = record { tables = tables; earlier = earlier; methods = e; judged = h.0 }
      by true i h more k (there z zs j) l = more (with_new tables x) (or_this earlier x) e h.1 k j l
      by false i h more k (here zs) l = clash (loose x) l i
      by false i h more k (there z zs j) l = more tables earlier e h k j l

  module _ (given : AreLoose base p o optimise fits admitted not_null loose) where
    stands_there : (k : MethodKey) → loose k ≡ true → In k (methods_of p)
    stands_there k l = by (list_any (method_eq k) (methods_of p)) refl
      where
        by : (b : Bool) → list_any (method_eq k) (methods_of p) ≡ b → In k (methods_of p)
        by true e = let r = any_where (method_eq k) (methods_of p) e in subst (λ x. In x (methods_of p)) (sym (method_sound k r.0 r.1.1)) r.1.0
        by false e = clash (loose k) l (given.others k e)

    pub judged : (k : MethodKey) → loose k ≡ true → IsJudged k
    judged k l = judged_in (methods_of p) (tables_of base) (λ g. false) refl given.judged k (stands_there k l) l

    -- and it passes a receiver that facts know
    pub knows_receivers : KnowsReceivers p loose not_null
    knows_receivers caller b n kind k args h e i r l = ((judged h.key l).judged.calls.calls caller b n kind k args e i
        (ap (λ b. b || list_any (λ g. method_eq g.key h.key) (may_find p caller.class kind k)) (ap (λ o. elim o as (λ o. Bool) [ Some g ↦ method_eq g.key h.key | None ↦ method_eq k h.key ]) r ∙ method_same h.key))).1

    pub may_be_static : MayAllBeStatic p o (tables_of base).methods loose
    may_be_static k l = let j = (judged k l).judged in record {
      class = j.class;
      method = j.method;
      named = j.named;
      defined = j.defined;
      coded = j.coded;
      receiver = j.receiver;
      plain = j.plain;
      free = j.free;
      in_class = j.in_class;
      trivial = j.trivial;
      apart = λ v. alone_apart p k (j.alone v);
      calls = λ caller b n kind called args e i c. let r = j.calls.calls caller b n kind called args e i c in
          (receives not_null caller n kind args r.1, and_behind (admitted caller) (is_plain_call p k caller.class kind called) r.0);
      new = subst (λ ms. list_any (λ t. same_name t.name t.signature k.name (new_signature k)) ms ≡ false) (judged k l).methods j.new;
    }
