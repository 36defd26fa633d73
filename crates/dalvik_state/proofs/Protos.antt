-- Protos whose parameters are descriptors are told apart by their texts: a descriptor says where it ends.
use Rattle.std.proofs.Common.{◌≡◌, ℕ, zero, suc, ◌<◌, Bool, true, false, true≢false, List, [], ◌∷◌, ◌++◌, length, map, nat_eq, replicate, Ok, Err, Result, arith, ap, refl, sym, subst, ◌∙◌, append_assoc, eqb-true}
use Rattle.std.specs.Prelude.{◌&&◌, not, is_ok, slice_get, Option, Some, None}
use Rattle.std.specs.List.{concat, list_all}
use Rattle.dex_base.specs.declared.fault.BaseFault.{BaseFault}
use Rattle.dex_base.specs.declared.fault.BaseFault.TheVariants.{BadDescriptor}
use Rattle.dex_base.specs.declared.descriptor.Descriptor.{Descriptor}
use Rattle.dex_base.specs.Descriptor.{is_primitive, descriptor_of}
use Rattle.dex_base.specs.Grammar.{IsElement, OfLetter, OfClass, IsDescriptor, OfVoid, OfElement, OfArray, Early}
use Rattle.dex_base.proofs.DescriptorReading.{is_descriptor}
use Rattle.program_model.specs.declared.pools.Proto.{Proto}
use Rattle.program_model.specs.declared.program.Program.{Program}
use Rattle.program_model.specs.Texts.{has_string, has_type, string_text}
use Rattle.program_model.specs.TableRules.{type_fits}
use Rattle.class_defs.proofs.Positions.{number_of, number_test, same_test}
use Rattle.name_bridge.proofs.Found.{text_same}
use Rattle.name_bridge.proofs.Tables.{Sound, all_at, and_left, and_right, below, entry_at, proto_parameters, signature_once}
use Rattle.dalvik_defs.specs.Names.{Text, proto_text, text_eq}
use Rattle.dalvik_defs.specs.Naming.{signature_at, text_at, type_at}
use Rattle.dalvik_defs.specs.declared.names.Signature.{Signature}
use Rattle.dalvik_lookups.proofs.Interned.{text_sound}
use Rattle.dalvik_lookups.proofs.Interned as interned

head_same : (u v : ℕ) (us vs : Text) → u ∷ us ≡ v ∷ vs → u ≡ v
head_same u v us vs e = ap (λ l. elim l as (λ l. ℕ) [ [] ↦ u | x ∷ xs ↦ x ]) e

tail_same : (u v : ℕ) (us vs : Text) → u ∷ us ≡ v ∷ vs → us ≡ vs
tail_same u v us vs e = ap (λ l. elim l as (λ l. Text) [ [] ↦ us | x ∷ xs ↦ xs ]) e

-- what a descriptor is, where one is read
described : (t : Text) → is_ok (descriptor_of t) ≡ true → (k : Descriptor) × IsDescriptor t k
described t e = by (descriptor_of t) refl e
  where
    by : (r : Result Descriptor BaseFault) → descriptor_of t ≡ r → is_ok r ≡ true → (k : Descriptor) × IsDescriptor t k
    by (Ok k) i j = (k, (is_descriptor t).found k i)
    by (Err f) i j = absurd (true≢false (sym j))

-- no descriptor goes on behind another
no_longer : (t : Text) (u : ℕ) (us : Text) {A : Type 0} → is_ok (descriptor_of t) ≡ true → is_ok (descriptor_of (t ++ u ∷ us)) ≡ true → A
no_longer t u us e h =
    let k = described t e in
    let m = described (t ++ u ∷ us) h in
    absurd ((is_descriptor t).clean k.0 (BadDescriptor (length t)) ((is_descriptor t).again k.0 k.1) (Early (u ∷ us) m.0 (omega arith) m.1 refl))

-- of two texts that begin one, one begins the other
data Begun (s t a b : Text) : Type 0 where
  same : s ≡ t → a ≡ b → Begun s t a b
  first : (u : ℕ) (us : Text) → t ≡ s ++ u ∷ us → Begun s t a b
  second : (u : ℕ) (us : Text) → s ≡ t ++ u ∷ us → Begun s t a b

begin : (s t a b : Text) → s ++ a ≡ t ++ b → Begun s t a b
begin [] [] a b e = same refl e
begin [] (v ∷ t) a b e = first v t refl
begin (u ∷ s) [] a b e = second u s refl
begin (u ∷ s) (v ∷ t) a b e = on (begin s t a b (tail_same u v (s ++ a) (t ++ b) e))
  where
    i : u ≡ v
    i = head_same u v (s ++ a) (t ++ b) e

    on : Begun s t a b → Begun (u ∷ s) (v ∷ t) a b
    on (same j k) = same (ap (λ w. w ∷ s) i ∙ ap (λ w. v ∷ w) j) k
    on (first w ws j) = first w ws (ap (λ x. v ∷ x) j ∙ ap (λ x. x ∷ (s ++ w ∷ ws)) (sym i))
    on (second w ws j) = second w ws (ap (λ x. u ∷ x) j ∙ ap (λ x. x ∷ (t ++ w ∷ ws)) i)

same_start : (s t a b : Text) → is_ok (descriptor_of s) ≡ true → is_ok (descriptor_of t) ≡ true → s ++ a ≡ t ++ b → (s ≡ t) × (a ≡ b)
same_start s t a b h k e = by (begin s t a b e)
  where
    by : Begun s t a b → (s ≡ t) × (a ≡ b)
    by (same i j) = (i, j)
    by (first u us i) = no_longer s u us h (subst (λ x. is_ok (descriptor_of x) ≡ true) i k)
    by (second u us i) = no_longer t u us k (subst (λ x. is_ok (descriptor_of x) ≡ true) i h)

abbrev is_described : Text → Bool
is_described t = is_ok (descriptor_of t)

-- no descriptor is empty or begins with a closing bracket
abbrev begins : Text → Bool
begins t = elim t as (λ t. Bool) [ [] ↦ false | u ∷ us ↦ not (nat_eq u 41) ]

letter_begins : (u : ℕ) → is_primitive u ≡ true → (b : Bool) → nat_eq u 41 ≡ b → not b ≡ true
letter_begins u e false i = refl
letter_begins u e true i = absurd (true≢false (sym (subst (λ (x : ℕ). is_primitive x ≡ true) (eqb-true u 41 i) e)))

element_begins : (t : Text) (k : Descriptor) → IsElement t k → begins t ≡ true
element_begins t k (OfLetter u h e i) = ap begins e ∙ letter_begins u h (nat_eq u 41) refl
element_begins t k (OfClass names h e i) = ap begins e

descriptor_begins : (t : Text) (k : Descriptor) → IsDescriptor t k → begins t ≡ true
descriptor_begins t k (OfVoid e i) = ap begins e
descriptor_begins t k (OfElement h) = element_begins t k h
descriptor_begins t k (OfArray depth element of some few e h i) = ap begins e ∙ by depth some
  where
    by : (d : ℕ) → 0 < d → begins (replicate d 91 ++ element) ≡ true
    by zero lt = absurd (omega (arith, lt))
    by (suc d) lt = refl

no_bracket : (t r a : Text) {A : Type 0} → is_ok (descriptor_of t) ≡ true → 41 ∷ r ≡ t ++ a → A
no_bracket [] r a h e = let k = described [] h in absurd (true≢false (sym (descriptor_begins [] k.0 k.1)))
no_bracket (u ∷ t) r a h e = let k = described (u ∷ t) h in absurd (true≢false (sym (descriptor_begins (u ∷ t) k.0 k.1) ∙ ap (λ w. not (nat_eq w 41)) (sym (head_same 41 u r (t ++ a) e))))

parameters_same : (ts us : List Text) (r q : Text) → list_all is_described ts ≡ true → list_all is_described us ≡ true → concat ts ++ 41 ∷ r ≡ concat us ++ 41 ∷ q → (ts ≡ us) × (r ≡ q)
parameters_same [] [] r q h k e = (refl, tail_same 41 41 r q e)
parameters_same [] (u ∷ us) r q h k e = no_bracket u r (concat us ++ 41 ∷ q) (and_left (is_described u) (list_all is_described us) k) (e ∙ append_assoc u (concat us) (41 ∷ q))
parameters_same (t ∷ ts) [] r q h k e = no_bracket t q (concat ts ++ 41 ∷ r) (and_left (is_described t) (list_all is_described ts) h) (sym e ∙ append_assoc t (concat ts) (41 ∷ r))
parameters_same (t ∷ ts) (u ∷ us) r q h k e =
    let d = same_start t u (concat ts ++ 41 ∷ r) (concat us ++ 41 ∷ q) (and_left (is_described t) (list_all is_described ts) h) (and_left (is_described u) (list_all is_described us) k)
    (sym (append_assoc t (concat ts) (41 ∷ r)) ∙ e ∙ append_assoc u (concat us) (41 ∷ q)) in
    let s = parameters_same ts us r q (and_right (is_described t) (list_all is_described ts) h) (and_right (is_described u) (list_all is_described us) k) d.1 in
    (ap (λ x. x ∷ ts) d.0 ∙ ap (λ xs. u ∷ xs) s.0, s.1)

proto_same : (a b : Signature) → list_all is_described a.parameters ≡ true → list_all is_described b.parameters ≡ true → proto_text a ≡ proto_text b → a ≡ b
proto_same a b h k e =
    let d = parameters_same a.parameters b.parameters a.result b.result h k (tail_same 40 40 (concat a.parameters ++ 41 ∷ a.result) (concat b.parameters ++ 41 ∷ b.result) e) in
    ap (λ x. record { parameters = x; result = a.result }) d.0 ∙ ap (λ x. record { parameters = b.parameters; result = x }) d.1

-- ---- the protos of a program

module _ (p : Program) (s : Sound p) where
  type_described : (k : ℕ) → has_type p k ≡ true → is_described (type_at p k) ≡ true
  type_described k h =
      let t = entry_at p.types k (below k (length p.types) h) in
      ap (λ x. is_described (elim x as (λ x. Text) [ Some n ↦ text_at p n | None ↦ [] ])) t.1
      ∙ ap is_described (text_same p t.0)
      ∙ and_right (has_string p t.0) (is_ok (descriptor_of (string_text p t.0))) (all_at (type_fits p) p.types k t.0 s.types_fit t.1)

  types_described : (ks : List ℕ) → list_all (has_type p) ks ≡ true → list_all is_described (map (type_at p) ks) ≡ true
  types_described [] h = refl
  types_described (k ∷ ks) h =
      (λ i. type_described k (and_left (has_type p k) (list_all (has_type p) ks) h) i && types_described ks (and_right (has_type p k) (list_all (has_type p) ks) h) i)

  parameters_described : (q : ℕ) → list_all is_described (signature_at p q).parameters ≡ true
  parameters_described q = by (slice_get p.protos q) refl
    where
      by : (o : Option Proto) → slice_get p.protos q ≡ o
          → list_all is_described (elim o as (λ o. Signature) [ Some x ↦ record { parameters = map (type_at p) x.parameters; result = type_at p x.result } | None ↦ record { parameters = []; result = [] } ]).parameters ≡ true
      by (Some x) e = types_described x.parameters (proto_parameters p s q x e)
      by None e = refl

  -- the texts of protos are those of their numbers
  pub proto_test : (i j : ℕ) → i < length p.protos → j < length p.protos → text_eq (proto_text (signature_at p i)) (proto_text (signature_at p j)) ≡ nat_eq i j
  proto_test i j hi hj = same_test (text_eq (proto_text (signature_at p i)) (proto_text (signature_at p j))) (nat_eq i j)
      (λ e. number_test i j (signature_once p s i j hi hj (proto_same (signature_at p i) (signature_at p j) (parameters_described i) (parameters_described j) (text_sound (proto_text (signature_at p i)) (proto_text (signature_at p j)) e))))
      (λ e. ap (λ (k : ℕ). text_eq (proto_text (signature_at p i)) (proto_text (signature_at p k))) (sym (number_of i j e)) ∙ interned.text_same (proto_text (signature_at p i)))
