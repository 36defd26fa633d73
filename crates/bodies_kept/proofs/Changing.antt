-- A program with other bodies is a change of the program.
use Rattle.std.proofs.Common.{◌≡◌, inl, inr, ℕ, zero, suc, ◌<◌, Bool, true, false, List, [], ◌∷◌, map, length, Option, Some, None, Contains, refl, sym, ap, ap₂, ◌∙◌, subst, arith}
use Rattle.std.specs.Prelude.{◌&&◌, find, is_some, if◌then◌else◌, slice_get, slice_index_or, nat_eq}
use Rattle.std.specs.Option.{option_and_then}
use Rattle.std.specs.Cmp.Lexicographic.{pointwise}
use Rattle.std.proofs.lemmas.Bool.{cases_Bool, and_from, eq-eqb, false≢true}
use mathlib.Core.Bool.{cond}
use Rattle.dalvik_defs.specs.Names.{Text, text_eq, texts_eq, signature_eq, same_name}
use Rattle.dalvik_defs.specs.Silence.{key_in}
use Rattle.dalvik_defs.specs.declared.names.Signature.{Signature}
use Rattle.dalvik_defs.specs.declared.names.MethodKey.{MethodKey}
use Rattle.dalvik_defs.specs.declared.program.NamedBody.{NamedBody}
use Rattle.dalvik_defs.specs.declared.program.NamedMethod.{NamedMethod}
use Rattle.dalvik_defs.specs.declared.program.NamedClass.{NamedClass}
use Rattle.dalvik_defs.specs.declared.program.NamedProgram.{NamedProgram}
use Rattle.program_laws.specs.Bodies.{Code, Change, method_changed, class_changed, changed, KeepsCode}
use Rattle.program_laws.specs.Others.{Pairwise, Codes, OtherMethod, OtherClass, OtherBodies}
use Rattle.bodies_kept.specs.Unique.{IsUnique}
use Rattle.bodies_kept.specs.Changing.{code_of, in_class, counterpart, same_bool, code_from, change_to}

-- ---- lists

found_at : {A : Type 0} (t : A → Bool) (xs : List A) (i : ℕ) (x : A) → slice_get xs i ≡ Some x → t x ≡ true → ((j : ℕ) (y : A) → slice_get xs j ≡ Some y → t y ≡ true → j ≡ i) → find t xs ≡ Some x
found_at t [] i x e h only = absurd (cc)
found_at t (z ∷ zs) zero x e h only = let s : z ≡ x = cc in ap (λ b. cond b (Some z) (find t zs)) (ap t s ∙ h) ∙ ap Some s
found_at t (z ∷ zs) (suc i) x e h only = elim (cases_Bool (t z)) [
  | inl on ↦ let f : 0 ≡ suc i = only 0 z refl on in absurd (omega (arith, f))
  | inr off ↦ ap (λ b. cond b (Some z) (find t zs)) off ∙ found_at t zs i x e h (λ j y g k. let f : suc j ≡ suc i = only (suc j) y g k in omega (arith, f))
]

-- the partner of an item of a list, and of its partner
partner : {A : Type 0} (R : A → A → Type 0) (xs ys : List A) (i : ℕ) (x : A) → Pairwise R xs ys → slice_get xs i ≡ Some x → (y : A) × ((slice_get ys i ≡ Some y) × R x y)
partner R [] ys i x r e = absurd (cc)
partner R (z ∷ zs) [] i x r e = absurd r
partner R (z ∷ zs) (w ∷ ws) zero x r e = let s : z ≡ x = cc in (w, (refl, subst (λ v. R v w) s r.0))
partner R (z ∷ zs) (w ∷ ws) (suc i) x r e = partner R zs ws i x r.1 e

partner_of : {A : Type 0} (R : A → A → Type 0) (xs ys : List A) (i : ℕ) (y : A) → Pairwise R xs ys → slice_get ys i ≡ Some y → (x : A) × ((slice_get xs i ≡ Some x) × R x y)
partner_of R [] [] i y r e = absurd (cc)
partner_of R [] (w ∷ ws) i y r e = absurd r
partner_of R (z ∷ zs) [] i y r e = absurd r
partner_of R (z ∷ zs) (w ∷ ws) zero y r e = let s : w ≡ y = cc in (z, (refl, subst (λ v. R z v) s r.0))
partner_of R (z ∷ zs) (w ∷ ws) (suc i) y r e = partner_of R zs ws i y r.1 e

maps_to : {A : Type 0} (R : A → A → Type 0) (f : A → A) (xs ys : List A) → Pairwise R xs ys → ((i : ℕ) (x y : A) → slice_get xs i ≡ Some x → slice_get ys i ≡ Some y → R x y → f x ≡ y) → map f xs ≡ ys
maps_to R f [] [] r h = refl
maps_to R f [] (y ∷ ys) r h = absurd r
maps_to R f (x ∷ xs) [] r h = absurd r
maps_to R f (x ∷ xs) (y ∷ ys) r h = ap₂ (λ z zs. z ∷ zs) (h 0 x y refl refl r.0) (maps_to R f xs ys r.1 (λ i u v d e s. h (suc i) u v d e s))

placed : {A : Type 0} (xs : List A) (x : A) (i : ℕ) → i < length xs → slice_index_or xs i x ≡ x → slice_get xs i ≡ Some x
placed [] x i lt e = absurd (omega (arith, lt))
placed (y ∷ ys) x zero lt e = ap Some e
placed (y ∷ ys) x (suc i) lt e = placed ys x i (omega (arith, lt)) e

place_of : {A : Type 0} (xs : List A) (x : A) → Contains xs x → (i : ℕ) × (slice_get xs i ≡ Some x)
place_of xs x c = (c.0, placed xs x c.0 c.1 c.2)

-- ---- names

pub same_text : (t : Text) → text_eq t t ≡ true
same_text [] = refl
same_text (u ∷ us) = and_from (nat_eq u u) (text_eq us us) (eq-eqb u u refl) (same_text us)

same_texts : (ts : List Text) → texts_eq ts ts ≡ true
same_texts [] = refl
same_texts (t ∷ ts) = and_from (text_eq t t) (texts_eq ts ts) (same_text t) (same_texts ts)

same_member : (n : Text) (s : Signature) → same_name n s n s ≡ true
same_member n s = and_from (text_eq n n) (signature_eq s s) (same_text n) (and_from (text_eq s.result s.result) (texts_eq s.parameters s.parameters) (same_text s.result) (same_texts s.parameters))

-- ---- code

bools_same : (b : Bool) → same_bool b b ≡ true
bools_same true = refl
bools_same false = refl

bool_same : (a b : Bool) → same_bool a b ≡ true → a ≡ b
bool_same true b e = sym e
bool_same false true e = absurd (false≢true e)
bool_same false false e = refl

pub keeps_code : (q : NamedProgram) → KeepsCode (change_to q)
keeps_code q c m = by (counterpart q c m)
  where
    by : (o : Option NamedMethod) → is_some (code_from m o).body ≡ is_some m.body
    by None = refl
    by (Some n) = at (same_bool (is_some n.body) (is_some m.body)) refl
      where
        at : (b : Bool) → b ≡ same_bool (is_some n.body) (is_some m.body) → is_some (if b then code_of n else code_of m).body ≡ is_some m.body
        at true e = bool_same (is_some n.body) (is_some m.body) (sym e)
        at false e = refl

-- ---- programs

module _ (R : Codes) (p q : NamedProgram) (unique : IsUnique p) (others : OtherBodies R p q) where
  class_found : (i : ℕ) (c d : NamedClass) → slice_get p.classes i ≡ Some c → slice_get q.classes i ≡ Some d → OtherClass R c d → find (λ e. text_eq e.name c.name) q.classes ≡ Some d
  class_found i c d h g o = found_at (λ e. text_eq e.name c.name) q.classes i d g (ap (λ e. text_eq e.name c.name) o.same ∙ same_text c.name) only
    where
      only : (j : ℕ) (e : NamedClass) → slice_get q.classes j ≡ Some e → text_eq e.name c.name ≡ true → j ≡ i
      only j e k t =
          let u : (x : NamedClass) × ((slice_get p.classes j ≡ Some x) × OtherClass R x e) = partner_of (OtherClass R) p.classes q.classes j e others.classes k in
          unique.classes j i u.0 c u.1.0 h (ap (λ y. text_eq y.name c.name) (sym u.1.1.same) ∙ t)

  method_found : (i j : ℕ) (c d : NamedClass) (m n : NamedMethod) → slice_get p.classes i ≡ Some c → OtherClass R c d → slice_get c.methods j ≡ Some m → slice_get d.methods j ≡ Some n → OtherMethod R c m n → in_class m d ≡ Some n
  method_found i j c d m n h o g k s = found_at (λ x. same_name x.name x.signature m.name m.signature) d.methods j n k (ap (λ x. same_name x.name x.signature m.name m.signature) s.same ∙ same_member m.name m.signature) only
    where
      only : (l : ℕ) (e : NamedMethod) → slice_get d.methods l ≡ Some e → same_name e.name e.signature m.name m.signature ≡ true → l ≡ j
      only l e f t =
          let u : (x : NamedMethod) × ((slice_get c.methods l ≡ Some x) × OtherMethod R c x e) = partner_of (OtherMethod R c) c.methods d.methods l e o.methods f in
          unique.methods i l j c u.0 m h u.1.0 g (ap (λ y. same_name y.name y.signature m.name m.signature) (sym u.1.1.same) ∙ t)

  code_found : (i j : ℕ) (c d : NamedClass) (m n : NamedMethod) → slice_get p.classes i ≡ Some c → slice_get q.classes i ≡ Some d → OtherClass R c d → slice_get c.methods j ≡ Some m → slice_get d.methods j ≡ Some n → OtherMethod R c m n → change_to q c m ≡ code_of n
  code_found i j c d m n h h' o g g' s =
      ap (λ x. code_from m (option_and_then (in_class m) x)) (class_found i c d h h' o) ∙ ap (code_from m) (method_found i j c d m n h o g g' s)
      ∙ ap (λ b. if b then code_of n else code_of m) (ap (λ b. same_bool b (is_some m.body)) s.coded ∙ bools_same (is_some m.body))

  class_same : (i : ℕ) (c d : NamedClass) → slice_get p.classes i ≡ Some c → slice_get q.classes i ≡ Some d → OtherClass R c d → class_changed (change_to q) c ≡ d
  class_same i c d h h' o = ap (λ l. record c { methods = l }) (maps_to (OtherMethod R c) (method_changed (change_to q) c) c.methods d.methods o.methods method_same) ∙ sym o.same
    where
      method_same : (j : ℕ) (m n : NamedMethod) → slice_get c.methods j ≡ Some m → slice_get d.methods j ≡ Some n → OtherMethod R c m n → method_changed (change_to q) c m ≡ n
      method_same j m n g g' s = ap (λ (x : Code). record m { body = x.body; lines = x.lines }) (code_found i j c d m n h h' o g g' s) ∙ sym s.same

  pub is_changed : changed (change_to q) p ≡ q
  is_changed = ap (λ l. record p { classes = l }) (maps_to (OtherClass R) (class_changed (change_to q)) p.classes q.classes others.classes class_same) ∙ sym others.same

  pub related : (c : NamedClass) (m : NamedMethod) → Contains p.classes c → Contains c.methods m → R (key_in c m) m.body (change_to q c m).body
  related c m a b =
      let i : (i : ℕ) × (slice_get p.classes i ≡ Some c) = place_of p.classes c a in
      let j : (j : ℕ) × (slice_get c.methods j ≡ Some m) = place_of c.methods m b in
      let d : (d : NamedClass) × ((slice_get q.classes i.0 ≡ Some d) × OtherClass R c d) = partner (OtherClass R) p.classes q.classes i.0 c others.classes i.1 in
      let n : (n : NamedMethod) × ((slice_get d.0.methods j.0 ≡ Some n) × OtherMethod R c m n) = partner (OtherMethod R c) c.methods d.0.methods j.0 m d.1.1.methods j.1 in
      subst (λ (x : Code). R (key_in c m) m.body x.body) (sym (code_found i.0 j.0 c d.0 m n.0 i.1 d.1.0 d.1.1 j.1 n.1.0 n.1.1)) n.1.1.related
