-- The letters of fields' types are those that a field may have, and new numbers keep them.
use Rattle.std.proofs.Common.{◌≡◌, ◌<◌, ◌≤◌, ℕ, zero, suc, Bool, true, false, List, [], ◌∷◌, length, Option, Some, None, refl, sym, ap, subst, ◌∙◌, arith, ltb-true}
use Rattle.std.specs.Prelude.{slice_get, not, is_ok, ◌&&◌, ◌||◌, ◌==◌}
use Rattle.std.specs.Option.{option_map}
use Rattle.std.specs.List.{list_all}
use Rattle.std.proofs.lemmas.Bool.{and_parts}
use Rattle.lemmas.proofs.Lists.{all_at}
use Rattle.lemmas.proofs.Bools.{not_true}
use Rattle.dex_base.specs.Descriptor.{descriptor_of, next_spot}
use Rattle.program_model.specs.declared.pass.Renumber.{Renumber}
use Rattle.program_model.specs.declared.pools.FieldName.{FieldName}
use Rattle.program_model.specs.declared.program.Program.{Program}
use Rattle.program_model.specs.Texts.{has_string, has_type, string_text, text_or_none, type_text, first_unit, letter_of, is_void, is_reference}
use Rattle.program_model.specs.TableRules.{type_fits, proto_fits, field_id_fits, method_id_fits, entries_fit}
use Rattle.program_model.specs.MemberRules.{field_letter}
use Rattle.dex_pools.specs.declared.interner.Interner.{Interner}
use Rattle.dex_pools.specs.declared.used.Named.TheVariants as named
use Rattle.dex_pools.specs.Interned.{IsInterned}
use Rattle.dex_pools.specs.Numbering.{used_in, type_key, field_key}
use Rattle.dex_defs.specs.Written.{new_string, new_type, new_field, written_field_name, written_by}
use Rattle.write_laws.specs.Used.{IsUsed, IsShort, UsesField}
use Rattle.write_laws.proofs.Closed.{used_closed}
use Rattle.write_laws.proofs.NamesOrdering.{AsMany, used_marked}
use Rattle.write_laws.proofs.Carried.{carried}
use Rattle.write_laws.specs.Fits.{OrdersIn}
use Rattle.write_laws.proofs.Ordering.{orders_in}
use Rattle.written_code.proofs.Known.{string_kept}
use Rattle.written_code.proofs.Firsts.{IsFieldLetter}

-- ---- the first unit of a descriptor

letter_fits : (text : List ℕ) → is_ok (descriptor_of text) ≡ true → is_void (first_unit text) ≡ false → IsFieldLetter (first_unit text)
unfolding descriptor_of next_spot
letter_fits [] ok void = absurd cc
letter_fits (u ∷ us) ok void = λ z b s c i j f d. by (u == 91) refl (u == 76) refl z b s c i j f d
  where
    or_true : (t : Bool) → (t || true) ≡ true
    or_true true = refl
    or_true false = refl

    by : (t : Bool) → (u == 91) ≡ t → (v : Bool) → (u == 76) ≡ v → (u == 90) ≡ false → (u == 66) ≡ false → (u == 83) ≡ false → (u == 67) ≡ false → (u == 73) ≡ false → (u == 74) ≡ false → (u == 70) ≡ false → (u == 68) ≡ false → is_reference u ≡ true
    by true e v g z b s c i j f d = ap (λ (t : Bool). u == 76 || t) e ∙ or_true (u == 76)
    by false e true g z b s c i j f d = ap (λ (t : Bool). t || u == 91) g
    by false e false g z b s c i j f d = absurd (let none : false ≡ true = rw (e, g, z, b, s, c, i, j, f, d, void) at ok in cc)

module _ (p : Program) (i : Interner) (few : IsShort p) (h : IsInterned p i) where
  abbrev q : Program
  q = written_by i p

  abbrev r : Renumber
  r = i.numbers

  many : AsMany p (used_in p)
  many = used_marked p

  orders : OrdersIn p i
  orders = orders_in p i h

  -- a type keeps its letter
  type_kept : (k : ℕ) → IsUsed (used_in p) (named.Kind k) → letter_of q (new_type r k) ≡ letter_of p k
  unfolding letter_of type_text
  type_kept k used = by (slice_get p.types k) refl
    where
      there : slice_get q.types (new_type r k) ≡ option_map (new_string r) (slice_get p.types k)
      there = carried (new_string r) p.types (used_in p).types (type_key r.strings.items p.types) i.order.types.items r.types.items h.types orders.types many.types few.types k used

      by : (o : Option ℕ) → slice_get p.types k ≡ o → first_unit (text_or_none q (slice_get q.types (new_type r k))) ≡ first_unit (text_or_none p (slice_get p.types k))
      by None e = ap (λ (o : Option ℕ). first_unit (text_or_none q o)) (there ∙ ap (option_map (new_string r)) e) ∙ sym (ap (λ (o : Option ℕ). first_unit (text_or_none p o)) e)
      by (Some s) e = ap (λ (o : Option ℕ). first_unit (text_or_none q o)) (there ∙ ap (option_map (new_string r)) e) ∙ (ap first_unit (string_kept p i few h s ((used_closed p few).types k s e used)) ∙ sym (ap (λ (o : Option ℕ). first_unit (text_or_none p o)) e))

  pub field_kept : (n : ℕ) → IsUsed (used_in p) (named.Field n) → field_letter q (slice_get q.fields (new_field r n)) ≡ field_letter p (slice_get p.fields n)
  field_kept n used = by (slice_get p.fields n) refl
    where
      there : slice_get q.fields (new_field r n) ≡ option_map (written_field_name r) (slice_get p.fields n)
      there = carried (written_field_name r) p.fields (used_in p).fields (field_key r.strings.items r.types.items p.fields) i.order.fields.items r.fields.items h.fields orders.fields many.fields few.fields n used

      by : (o : Option FieldName) → slice_get p.fields n ≡ o → field_letter q (slice_get q.fields (new_field r n)) ≡ field_letter p (slice_get p.fields n)
      by None e = ap (λ (o : Option FieldName). field_letter q o) (there ∙ ap (option_map (written_field_name r)) e) ∙ sym (ap (λ (o : Option FieldName). field_letter p o) e)
      by (Some x) e =
          let own : UsesField (used_in p) x = (used_closed p few).fields n x e used in
          ap (λ (o : Option FieldName). field_letter q o) (there ∙ ap (option_map (written_field_name r)) e) ∙ (type_kept x.kind own.kind ∙ sym (ap (λ (o : Option FieldName). field_letter p o) e))

-- ---- the letter of a field's type in well-formed tables

past : (ns : List ℕ) (k : ℕ) → slice_get ns k ≡ None → length ns ≤ k
past [] k g = omega arith
past (n ∷ ns) zero g = absurd cc
past (n ∷ ns) (suc k) g = omega (arith, past ns k g)

kind_letter : (p : Program) (kind : ℕ) → kind < length p.types → not (is_void (letter_of p kind)) ≡ true → list_all (type_fits p) p.types ≡ true → IsFieldLetter (letter_of p kind)
unfolding letter_of type_text
kind_letter p kind lt void types = by (slice_get p.types kind) refl
  where
    by : (o : Option ℕ) → slice_get p.types kind ≡ o → IsFieldLetter (first_unit (text_or_none p (slice_get p.types kind)))
    by None g = absurd (omega (arith, lt, past p.types kind g))
    by (Some s) g =
        let same : first_unit (text_or_none p (slice_get p.types kind)) ≡ first_unit (string_text p s) = ap (λ (o : Option ℕ). first_unit (text_or_none p o)) g in
        let ok : is_ok (descriptor_of (string_text p s)) ≡ true = (and_parts (has_string p s) (is_ok (descriptor_of (string_text p s))) (all_at (type_fits p) p.types kind s types g)).1 in
        subst IsFieldLetter (sym same) (letter_fits (string_text p s) ok (not_true (is_void (first_unit (string_text p s))) (subst (λ l. not (is_void l) ≡ true) same void)))

pub field_letters : (p : Program) → entries_fit p ≡ true → (n : ℕ) (x : FieldName) → slice_get p.fields n ≡ Some x → IsFieldLetter (field_letter p (slice_get p.fields n))
unfolding entries_fit
field_letters p fit n x e =
    let a = and_parts (list_all (type_fits p) p.types) (list_all (proto_fits p) p.protos && (list_all (field_id_fits p) p.fields && list_all (method_id_fits p) p.methods)) fit in
    let b = and_parts (list_all (proto_fits p) p.protos) (list_all (field_id_fits p) p.fields && list_all (method_id_fits p) p.methods) a.1 in
    let c = and_parts (list_all (field_id_fits p) p.fields) (list_all (method_id_fits p) p.methods) b.1 in
    let d = and_parts (has_type p x.class && has_type p x.kind) (has_string p x.name && not (is_void (letter_of p x.kind))) (all_at (field_id_fits p) p.fields n x c.0 e) in
    let kind : has_type p x.kind ≡ true = (and_parts (has_type p x.class) (has_type p x.kind) d.0).1 in
    let void : not (is_void (letter_of p x.kind)) ≡ true = (and_parts (has_string p x.name) (not (is_void (letter_of p x.kind))) d.1).1 in
    subst (λ o. IsFieldLetter (field_letter p o)) (sym e) (kind_letter p x.kind (ltb-true x.kind (length p.types) kind) void a.0)
