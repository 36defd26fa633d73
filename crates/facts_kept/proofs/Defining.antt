-- A method that the named program defines, by its place and its number, and a number that the outside lists for a name.
use Rattle.std.proofs.Common.{◌≡◌, ℕ, ◌<◌, ◌≤◌, ◌⊎◌, inl, inr, true, false, true≢false, List, [], ◌∷◌, length, Option, Some, None, refl, sym, ap, ◌∙◌, subst}
use Rattle.std.specs.Prelude.{◌&&◌, nat_eq, slice_get}
use Rattle.std.specs.List.{list_any}
use Rattle.std.proofs.lemmas.Bool.{cases_lt}
use Rattle.std.proofs.lemmas.Option.{slice_get_past}
use Rattle.lemmas.proofs.Options.{none_some}
use Rattle.program_model.specs.Lookups as look
use Rattle.program_model.specs.declared.program.Class.{Class}
use Rattle.program_model.specs.declared.program.Method.{Method}
use Rattle.program_model.specs.declared.program.MethodAt.{MethodAt}
use Rattle.program_model.specs.declared.program.Program.{Program}
use Rattle.class_defs.proofs.Positions.{number_of, number_test}
use Rattle.class_defs.proofs.WellFormed.{and_left, and_right, Sound}
use Rattle.dalvik_defs.specs.Find.{defined_method, method_in}
use Rattle.dalvik_defs.specs.Names.{Text, is_class_type, method_eq, same_name, signature_eq, text_eq}
use Rattle.dalvik_defs.specs.Naming.{method_at, named, named_class, named_method, signature_at, text_at, type_at}
use Rattle.dalvik_defs.specs.Outer.{methods_in}
use Rattle.dalvik_defs.specs.Under.{class_named}
use Rattle.dalvik_defs.specs.declared.names.MethodKey.{MethodKey}
use Rattle.dalvik_defs.specs.declared.names.Signature.{Signature}
use Rattle.dalvik_defs.specs.declared.program.NamedClass.{NamedClass}
use Rattle.dalvik_defs.specs.declared.program.NamedMethod.{NamedMethod}
use Rattle.dalvik_defs.proofs.Calm.{text_sound}
use Rattle.name_bridge.proofs.Tables.{method_once}
use Rattle.removal_law.proofs.Lists.{In}
use Rattle.removal_law.proofs.Outward.{any_here, any_where}
use Rattle.removal_bridge.proofs.Listed.{name_fits}
use Rattle.facts_kept.proofs.Numbers.{IsNumber, method_same, method_sound, signature_sound}
use Rattle.facts_kept.proofs.Places.{found_at, looked_up, own_key}

-- a method of a class, by names
pub record DefinedAt (p : Program) (s : Sound p) (k : MethodKey) (m : NamedMethod) : Type 0 where
  pub at : MethodAt
  pub class : Class
  pub method : Method
  pub is_class : slice_get p.classes at.class ≡ Some class
  pub is_method : slice_get class.methods at.place ≡ Some method
  pub is : named_method p method ≡ m
  pub class_is : type_at p class.name ≡ k.class
  pub number : IsNumber p s k method.name
  pub there : look.method_at p at ≡ Some method

pub key_same : (k : MethodKey) {c n : Text} {g : Signature} → c ≡ k.class → n ≡ k.name → g ≡ k.signature → record { class = c; name = n; signature = g } ≡ k
key_same k a b d = λ i. record { class = a i; name = b i; signature = d i }

module _ (p : Program) (s : Sound p) where
  -- a method of a class that a search in it finds
  pub record OwnAt (c : Class) (n : Text) (g : Signature) (m : NamedMethod) : Type 0 where
    pub place : ℕ
    pub method : Method
    pub is_method : slice_get c.methods place ≡ Some method
    pub is : named_method p method ≡ m
    pub name : (named_method p method).name ≡ n
    pub signature : (named_method p method).signature ≡ g

  pub own_at : (c : Class) (n : Text) (g : Signature) (m : NamedMethod) → method_in (named_class p c) n g ≡ Some m → OwnAt c n g m
  own_at c n g m e =
      let y = found_at (named_method p) (λ m. same_name m.name m.signature n g) c.methods m e in
      record {
        place = y.place;
        method = y.entry;
        is_method = y.is_entry;
        is = y.is;
        name = ap (λ m. m.name) y.is ∙ text_sound m.name n (and_left (text_eq m.name n) (signature_eq m.signature g) y.passes);
        signature = ap (λ m. m.signature) y.is ∙ signature_sound m.signature g (and_right (text_eq m.name n) (signature_eq m.signature g) y.passes);
      }

  pub defined_at : (k : MethodKey) (m : NamedMethod) → defined_method (named p) k ≡ Some m → DefinedAt p s k m
  defined_at k m e = by (class_named (named p) k.class) refl e
    where
      by : (o : Option NamedClass) → class_named (named p) k.class ≡ o → (elim o as (λ o. Option NamedMethod) [ Some c ↦ method_in c k.name k.signature | None ↦ None ]) ≡ Some m → DefinedAt p s k m
      by None i h = none_some m h
      by (Some c) i h =
          let x = found_at (named_class p) (λ c. text_eq c.name k.class) p.classes c i in
          let y = own_at x.entry k.name k.signature m (subst (λ c. method_in c k.name k.signature ≡ Some m) (sym x.is) h) in
          let class : type_at p x.entry.name ≡ k.class = ap (λ c. c.name) x.is ∙ text_sound c.name k.class x.passes in
          let own = own_key p s x.place y.place x.entry y.method x.is_entry y.is_method in
          record {
            at = record { class = x.place; place = y.place };
            class = x.entry;
            method = y.method;
            is_class = x.is_entry;
            is_method = y.is_method;
            is = y.is;
            class_is = class;
            number = record { low = own.low; named = own.named ∙ key_same k class y.name y.signature };
            there = looked_up p s (record { class = x.place; place = y.place }) x.entry y.method x.is_entry y.is_method;
          }

  -- two numbers of a name
  pub same_number : (k : MethodKey) (i j : ℕ) → IsNumber p s k i → IsNumber p s k j → i ≡ j
  same_number k i j a b = method_once p s i j a.low b.low (a.named ∙ sym b.named)

  -- ---- what the outside lists

  -- a class has a name, and a number past the table has none
  pub named_class_type : (i : ℕ) (c : Class) → slice_get p.classes i ≡ Some c → type_at p c.name ≡ [] → ⊥
  named_class_type i c e empty = true≢false (sym (name_fits p s i c e) ∙ ap is_class_type empty)

  pub past_empty : (n : ℕ) → length p.methods ≤ n → (method_at p n).class ≡ []
  past_empty n le = ap (λ x. (elim x as (λ x. MethodKey) [ Some m ↦ record { class = type_at p m.class; name = text_at p m.name; signature = signature_at p m.proto } | None ↦ record { class = []; name = []; signature = record { parameters = []; result = [] } } ]).class) (slice_get_past p.methods n le)

  -- the number of a method of a class is in a list of numbers that has its name
  pub listed_number : (k : MethodKey) (m i : ℕ) (c : Class) (ns : List ℕ) → IsNumber p s k m → slice_get p.classes i ≡ Some c → type_at p c.name ≡ k.class → methods_in p ns k ≡ true → list_any (nat_eq m) ns ≡ true
  listed_number k m i c ns h e class has = by (cases_lt r.0 (length p.methods))
    where
      r : (n : ℕ) × (In n ns × (method_eq (method_at p n) k ≡ true))
      r = any_where (λ n. method_eq (method_at p n) k) ns has

      is : method_at p r.0 ≡ k
      is = method_sound (method_at p r.0) k r.1.1

      by : (r.0 < length p.methods) ⊎ (length p.methods ≤ r.0) → list_any (nat_eq m) ns ≡ true
      by (inl lt) = any_here (nat_eq m) r.0 ns r.1.0 (number_test m r.0 (same_number k m r.0 h (record { low = lt; named = is })))
      by (inr le) = absurd (named_class_type i c e (class ∙ ap (λ k. k.class) (sym is) ∙ past_empty r.0 le))

  -- and conversely
  pub listed_name : (k : MethodKey) (m : ℕ) (ns : List ℕ) → IsNumber p s k m → list_any (nat_eq m) ns ≡ true → methods_in p ns k ≡ true
  listed_name k m ns h has =
      let r = any_where (nat_eq m) ns has in
      any_here (λ n. method_eq (method_at p n) k) r.0 ns r.1.0 (subst (λ n. method_eq (method_at p n) k ≡ true) (number_of m r.0 r.1.1) (subst (λ z. method_eq z k ≡ true) (sym h.named) (method_same k)))
