-- The types in the tables of a well-formed program are descriptors, and those of fields are of values.
use Rattle.std.proofs.Common.{◌≡◌, ℕ, zero, suc, ◌<◌, Bool, true, false, true≢false, [], ◌∷◌, ◌++◌, length, Option, Some, None, Result, Ok, Err, replicate, refl, sym, ap, ◌∙◌, subst, eqb-true, arith}
use Rattle.std.specs.Prelude.{◌||◌, not, map, nat_eq, slice_get, is_ok, Contains}
use Rattle.dex_base.specs.Descriptor.{descriptor_of, is_primitive}
use Rattle.dex_base.specs.Grammar.{IsElement, OfLetter, OfClass, IsDescriptor, OfVoid, OfElement, OfArray}
use Rattle.dex_base.specs.declared.descriptor.Descriptor.{Descriptor}
use Rattle.dex_base.specs.declared.fault.BaseFault.{BaseFault}
use Rattle.dex_base.proofs.Names.{descriptor_found}
use Rattle.program_model.specs.Texts.{has_string, has_type, string_text}
use Rattle.program_model.specs.TableRules.{type_fits}
use Rattle.program_model.specs.declared.pools.Proto.{Proto}
use Rattle.program_model.specs.declared.program.Program.{Program}
use Rattle.dalvik_defs.specs.Names.{Text, is_void}
use Rattle.dalvik_defs.specs.Naming.{text_at, type_at, signature_at, field_at, named_class, named_method, named}
use Rattle.dalvik_defs.specs.declared.names.Signature.{Signature}
use Rattle.name_bridge.proofs.Classes.{class_parts}
use Rattle.name_bridge.proofs.Found.{text_same}
use Rattle.name_bridge.proofs.Tables.{and_right, all_at, below, entry_at, Sound, field_is, field_kind, method_is, proto_parameters}
use Rattle.removal_law.specs.Left.{In}
use Rattle.removal_law.specs.Reach.{IsDescribed}
use Rattle.removal_law.proofs.Lists.{contained}
use Rattle.removal_law.proofs.Trees.{class_in}
use Rattle.removal_bridge.proofs.Listed.{image}
use Rattle.removal_bridge.proofs.Members.{reads_known}
use Rattle.insn_set.specs.declared.form.Insn.TheVariants as insn
use Rattle.insn_set.specs.declared.ops.Item.TheVariants as item
use Rattle.cover_law.specs.Coverable.{has_values}

-- ---- what a descriptor begins with

-- a letter is one of these, each of which begins a type of values
last_of : (u n : ℕ) → has_values (n ∷ []) ≡ true → nat_eq u n ≡ true → has_values (u ∷ []) ≡ true
last_of u n known h = subst (λ x. has_values (x ∷ []) ≡ true) (sym (eqb-true u n h)) known

either_of : (u : ℕ) (b : Bool) (n : ℕ) → has_values (n ∷ []) ≡ true → (b ≡ true → has_values (u ∷ []) ≡ true) → (b || nat_eq u n) ≡ true → has_values (u ∷ []) ≡ true
either_of u true n known more h = more refl
either_of u false n known more h = last_of u n known h

primitive_values : (u : ℕ) → is_primitive u ≡ true → has_values (u ∷ []) ≡ true
primitive_values u =
    either_of u (nat_eq u 66 || nat_eq u 67 || nat_eq u 68 || nat_eq u 70 || nat_eq u 73 || nat_eq u 74 || nat_eq u 83) 90 refl
    (either_of u (nat_eq u 66 || nat_eq u 67 || nat_eq u 68 || nat_eq u 70 || nat_eq u 73 || nat_eq u 74) 83 refl
    (either_of u (nat_eq u 66 || nat_eq u 67 || nat_eq u 68 || nat_eq u 70 || nat_eq u 73) 74 refl
    (either_of u (nat_eq u 66 || nat_eq u 67 || nat_eq u 68 || nat_eq u 70) 73 refl
    (either_of u (nat_eq u 66 || nat_eq u 67 || nat_eq u 68) 70 refl
    (either_of u (nat_eq u 66 || nat_eq u 67) 68 refl
    (either_of u (nat_eq u 66) 67 refl
    (last_of u 66 refl)))))))

element_values : (t : Text) (k : Descriptor) → IsElement t k → has_values t ≡ true
element_values t k (OfLetter u q f at) = ap has_values f ∙ primitive_values u q
element_values t k (OfClass names are f at) = ap has_values f

brackets_values : (depth : ℕ) (element : Text) → 0 < depth → has_values (replicate depth 91 ++ element) ≡ true
brackets_values zero element lt = absurd (omega (arith, lt))
brackets_values (suc depth) element lt = refl

descriptor_values : (t : Text) (k : Descriptor) → IsDescriptor t k → is_void t ≡ false → has_values t ≡ true
descriptor_values t k (OfVoid f at) v = absurd (true≢false (sym (ap is_void f) ∙ v))
descriptor_values t k (OfElement f) v = element_values t k f
descriptor_values t k (OfArray depth element of some few f g at) v = ap has_values f ∙ brackets_values depth element some

pub text_values : (t : Text) → is_ok (descriptor_of t) ≡ true → is_void t ≡ false → has_values t ≡ true
text_values t e v = by (descriptor_of t) refl e
  where
    by : (r : Result Descriptor BaseFault) → descriptor_of t ≡ r → is_ok r ≡ true → has_values t ≡ true
    by (Ok k) i j = descriptor_values t k (descriptor_found t k i) v
    by (Err x) i j = absurd (true≢false (sym j))

module _ (p : Program) (s : Sound p) where
  -- a type of the program has a descriptor
  pub type_described : (k : ℕ) → k < length p.types → is_ok (descriptor_of (type_at p k)) ≡ true
  type_described k low =
      let i = entry_at p.types k low in
      ap (λ (t : Text). is_ok (descriptor_of t)) (ap (λ (o : Option ℕ). elim o as (λ o. Text) [ Some t ↦ text_at p t | None ↦ [] ]) i.1 ∙ text_same p i.0)
      ∙ and_right (has_string p i.0) (is_ok (descriptor_of (string_text p i.0))) (all_at (type_fits p) p.types k i.0 s.types_fit i.1)

  parameter_described : (q : ℕ) (u : Text) → In u (signature_at p q).parameters → is_ok (descriptor_of u) ≡ true
  parameter_described q u i = by (slice_get p.protos q) refl i
    where
      by : (o : Option Proto) → slice_get p.protos q ≡ o
          → In u (elim o as (λ o. Signature) [ Some x ↦ record { parameters = map (type_at p) x.parameters; result = type_at p x.result } | None ↦ record { parameters = []; result = [] } ]).parameters → is_ok (descriptor_of u) ≡ true
      by (Some x) e j = let m = image (type_at p) x.parameters u (contained u (map (type_at p) x.parameters) j) in
          subst (λ (t : Text). is_ok (descriptor_of t) ≡ true) m.is (type_described m.entry (below m.entry (length p.types) (all_at (has_type p) x.parameters m.place m.entry (proto_parameters p s q x e) m.is_entry)))
      by None e j = elim j [ ]

  -- the parameters of methods are descriptors
  pub described : IsDescribed (named p)
  described t c m u e i j =
      let k = image (named_class p) p.classes c (contained c (named p).classes (class_in (named p) t c e)) in
      let x = image (named_method p) k.entry.methods m (subst (λ c. Contains c.methods m) (sym k.is) (contained m c.methods i)) in
      let fits = (class_parts p s k.place k.entry k.is_entry).methods x.place x.entry x.is_entry in
      parameter_described fits.entry.proto u (subst (λ g. In u g.parameters) (ap (λ z. z.signature) (sym x.is) ∙ ap (λ z. z.signature) (method_is p s x.entry.name fits.entry fits.is)) j)

  -- the type of a field number of the program is one of values
  pub field_values : (n : ℕ) → n < length p.fields → has_values (field_at p n).kind ≡ true
  field_values n low =
      let e = entry_at p.fields n low in
      let is = ap (λ k. k.kind) (field_is p s n e.0 e.1) in
      ap has_values is ∙ text_values (type_at p e.0.kind) (type_described e.0.kind (field_kind p s n e.0 e.1)) (sym (ap is_void is) ∙ unvoid (is_void (field_at p n).kind) (reads_known p s (insn.StaticGet item.Plain 0 n)))
    where
      unvoid : (b : Bool) → not b ≡ true → b ≡ false
      unvoid true h = absurd (true≢false (sym h))
      unvoid false h = refl
