-- The number of a name is that of the entry which it names.
use Rattle.std.proofs.Common.{◌≡◌, ℕ, ◌<◌, true, true≢false, [], ◌∷◌, length, Some, refl, sym, ap, ◌∙◌, subst}
use Rattle.std.specs.Prelude.{◌&&◌}
use Rattle.lemmas.proofs.Lists.{got_short}
use Rattle.program_model.specs.declared.program.Program.{Program}
use Rattle.class_defs.proofs.Positions.{entry_at, both, place_entry, place_first}
use Rattle.class_defs.proofs.WellFormed.{and_left, and_right, Sound}
use Rattle.dalvik_defs.specs.Names.{field_eq, method_eq, signature_eq, text_eq, texts_eq}
use Rattle.dalvik_defs.specs.Naming.{field_at, method_at}
use Rattle.dalvik_defs.specs.declared.names.FieldKey.{FieldKey}
use Rattle.dalvik_defs.specs.declared.names.MethodKey.{MethodKey}
use Rattle.dalvik_defs.specs.declared.names.Signature.{Signature}
use Rattle.std.specs.Cmp.Lexicographic.{pointwise_decides, bytes_decides}
use Rattle.name_bridge.proofs.Tables.{field_is, field_once, method_is, method_once}
use Rattle.facts_kept.specs.Names.{field_key_of, field_number, method_key_of, method_number}

-- ---- tests of names

signature_same : (s : Signature) → signature_eq s s ≡ true
signature_same s = both (text_eq s.result s.result) (texts_eq s.parameters s.parameters) ((bytes_decides s.result s.result).1 refl) ((pointwise_decides {E = text_eq} bytes_decides s.parameters s.parameters).1 refl)

pub signature_sound : (a b : Signature) → signature_eq a b ≡ true → a ≡ b
signature_sound a b h =
    let r = (bytes_decides a.result b.result).0 (and_left (text_eq a.result b.result) (texts_eq a.parameters b.parameters) h) in
    let q = (pointwise_decides {E = text_eq} bytes_decides a.parameters b.parameters).0 (and_right (text_eq a.result b.result) (texts_eq a.parameters b.parameters) h) in
    λ i. record { parameters = q i; result = r i }

pub method_same : (k : MethodKey) → method_eq k k ≡ true
method_same k = both (text_eq k.class k.class && text_eq k.name k.name) (signature_eq k.signature k.signature)
    (both (text_eq k.class k.class) (text_eq k.name k.name) ((bytes_decides k.class k.class).1 refl) ((bytes_decides k.name k.name).1 refl)) (signature_same k.signature)

pub method_sound : (a b : MethodKey) → method_eq a b ≡ true → a ≡ b
method_sound a b h =
    let l = and_left (text_eq a.class b.class && text_eq a.name b.name) (signature_eq a.signature b.signature) h in
    let x = (bytes_decides a.class b.class).0 (and_left (text_eq a.class b.class) (text_eq a.name b.name) l) in
    let y = (bytes_decides a.name b.name).0 (and_right (text_eq a.class b.class) (text_eq a.name b.name) l) in
    let z = signature_sound a.signature b.signature (and_right (text_eq a.class b.class && text_eq a.name b.name) (signature_eq a.signature b.signature) h) in
    λ i. record { class = x i; name = y i; signature = z i }

pub field_same : (k : FieldKey) → field_eq k k ≡ true
field_same k = both (text_eq k.class k.class && text_eq k.name k.name) (text_eq k.kind k.kind)
    (both (text_eq k.class k.class) (text_eq k.name k.name) ((bytes_decides k.class k.class).1 refl) ((bytes_decides k.name k.name).1 refl)) ((bytes_decides k.kind k.kind).1 refl)

pub field_sound : (a b : FieldKey) → field_eq a b ≡ true → a ≡ b
field_sound a b h =
    let l = and_left (text_eq a.class b.class && text_eq a.name b.name) (text_eq a.kind b.kind) h in
    let x = (bytes_decides a.class b.class).0 (and_left (text_eq a.class b.class) (text_eq a.name b.name) l) in
    let y = (bytes_decides a.name b.name).0 (and_right (text_eq a.class b.class) (text_eq a.name b.name) l) in
    let z = (bytes_decides a.kind b.kind).0 (and_right (text_eq a.class b.class && text_eq a.name b.name) (text_eq a.kind b.kind) h) in
    λ i. record { class = x i; name = y i; kind = z i }

-- ---- numbers

module _ (p : Program) (s : Sound p) where
  -- a number of the table, and the name at it
  pub record IsNumber (k : MethodKey) (m : ℕ) : Type 0 where
    pub low : m < length p.methods
    pub named : method_at p m ≡ k

  pub method_of : (k : MethodKey) (m : ℕ) → method_number p k ≡ Some m → IsNumber k m
  method_of k m e =
      let x = place_entry (λ e. method_eq (method_key_of p e) k) p.methods m e in
      record { low = got_short p.methods m x.entry x.is; named = method_is p s m x.entry x.is ∙ method_sound (method_key_of p x.entry) k x.passes }

  pub number_of_method : (k : MethodKey) (m : ℕ) → IsNumber k m → method_number p k ≡ Some m
  number_of_method k m h =
      let e = entry_at p.methods m h.low in
      let passes : method_eq (method_key_of p e.0) k ≡ true = subst (λ z. method_eq (method_key_of p e.0) z ≡ true) (sym (method_is p s m e.0 e.1) ∙ h.named) (method_same (method_key_of p e.0)) in
      let first = place_first (λ e. method_eq (method_key_of p e) k) p.methods m e.0 e.1 passes in
      let there = method_of k first.place first.is in
      first.is ∙ ap Some (method_once p s first.place m there.low h.low (there.named ∙ sym h.named))

  pub record IsFieldNumber (k : FieldKey) (f : ℕ) : Type 0 where
    pub low : f < length p.fields
    pub named : field_at p f ≡ k

  pub field_of : (k : FieldKey) (f : ℕ) → field_number p k ≡ Some f → IsFieldNumber k f
  field_of k f e =
      let x = place_entry (λ e. field_eq (field_key_of p e) k) p.fields f e in
      record { low = got_short p.fields f x.entry x.is; named = field_is p s f x.entry x.is ∙ field_sound (field_key_of p x.entry) k x.passes }

  pub number_of_field : (k : FieldKey) (f : ℕ) → IsFieldNumber k f → field_number p k ≡ Some f
  number_of_field k f h =
      let e = entry_at p.fields f h.low in
      let passes : field_eq (field_key_of p e.0) k ≡ true = subst (λ z. field_eq (field_key_of p e.0) z ≡ true) (sym (field_is p s f e.0 e.1) ∙ h.named) (field_same (field_key_of p e.0)) in
      let first = place_first (λ e. field_eq (field_key_of p e) k) p.fields f e.0 e.1 passes in
      let there = field_of k first.place first.is in
      first.is ∙ ap Some (field_once p s first.place f there.low h.low (there.named ∙ sym h.named))
