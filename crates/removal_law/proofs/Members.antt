-- Methods by their names, in what is left of a program.
use Rattle.std.proofs.Common.{◌≡◌, Bool, true, false, List, [], ◌∷◌, refl, sym, ap, ◌∙◌}
use Rattle.std.specs.Prelude.{cond, Option, Some, None, filter, find}
use Rattle.std.specs.Option.{option_map, option_and_then}
use Rattle.dalvik_defs.specs.Names.{Text, text_eq, texts_eq, signature_eq, same_name}
use Rattle.dalvik_defs.specs.Under.{class_named}
use Rattle.dalvik_defs.specs.Find.{method_in, defined_method}
use Rattle.dalvik_defs.specs.Face.{bodies_of}
use Rattle.dalvik_defs.specs.Silence.{key_in}
use Rattle.dalvik_defs.specs.declared.names.Signature.{Signature}
use Rattle.dalvik_defs.specs.declared.names.MethodKey.{MethodKey}
use Rattle.dalvik_defs.specs.declared.program.NamedMethod.{NamedMethod}
use Rattle.dalvik_defs.specs.declared.program.NamedClass.{NamedClass}
use Rattle.dalvik_defs.specs.declared.program.NamedProgram.{NamedProgram}
use Rattle.dalvik_defs.proofs.Calm.{text_sound}
use Rattle.pass_defs.specs.Live.{Family}
use Rattle.removal_law.specs.Left.{left_in, left_of}
use Rattle.removal_law.proofs.Lists.{clash, and_left, and_behind, found_in}
use Rattle.removal_law.proofs.Classes.{class_left}

-- a filter that keeps all that a search may find
pub find_filter : {A : Type 0} (test keep : A → Bool) → ((x : A) → test x ≡ true → keep x ≡ true) → (xs : List A) → find test (filter keep xs) ≡ find test xs
find_filter test keep h [] = refl
find_filter test keep h (x ∷ xs) = by (test x) (keep x) refl refl (find_filter test keep h xs)
  where
    by : (b d : Bool) → test x ≡ b → keep x ≡ d → find test (filter keep xs) ≡ find test xs → find test (filter keep (x ∷ xs)) ≡ find test (x ∷ xs)
    by b true e i r = ap (λ d. find test (cond d (x ∷ filter keep xs) (filter keep xs))) i ∙ ap (cond (test x) (Some x)) r
    by true false e i r = clash (keep x) (h x e) i
    by false false e i r = ap (λ d. find test (cond d (x ∷ filter keep xs) (filter keep xs))) i ∙ r ∙ sym (ap (λ b. cond b (Some x) (find test xs)) e)

pub texts_sound : (ts us : List Text) → texts_eq ts us ≡ true → ts ≡ us
texts_sound [] [] e = refl
texts_sound [] (u ∷ us) e = clash false e refl
texts_sound (t ∷ ts) [] e = clash false e refl
texts_sound (t ∷ ts) (u ∷ us) e =
    ap (λ x. x ∷ ts) (text_sound t u (and_left (text_eq t u) (texts_eq ts us) e)) ∙ ap (λ xs. u ∷ xs) (texts_sound ts us (and_behind (text_eq t u) (texts_eq ts us) e))

pub signature_sound : (a b : Signature) → signature_eq a b ≡ true → a ≡ b
signature_sound a b e =
    let r : a.result ≡ b.result = text_sound a.result b.result (and_left (text_eq a.result b.result) (texts_eq a.parameters b.parameters) e) in
    let q : a.parameters ≡ b.parameters = texts_sound a.parameters b.parameters (and_behind (text_eq a.result b.result) (texts_eq a.parameters b.parameters) e) in
    ap (λ x. record { result = x; parameters = a.parameters }) r ∙ ap (λ x. record { result = b.result; parameters = x }) q

-- a method of a name is the one of that name
abbrev pub key : Text → Text → Signature → MethodKey
key t n g = record { class = t; name = n; signature = g }

pub key_sound : (c : NamedClass) (m : NamedMethod) (n : Text) (g : Signature) → same_name m.name m.signature n g ≡ true → key_in c m ≡ key c.name n g
key_sound c m n g e =
    ap (λ x. key c.name x m.signature) (text_sound m.name n (and_left (text_eq m.name n) (signature_eq m.signature g) e))
    ∙ ap (key c.name n) (signature_sound m.signature g (and_behind (text_eq m.name n) (signature_eq m.signature g) e))

module _ (s : Family) where
  pub method_left : (c : NamedClass) (n : Text) (g : Signature) → s.methods (key c.name n g) ≡ true → method_in (left_in s c) n g ≡ method_in c n g
  method_left c n g e = find_filter (λ m. same_name m.name m.signature n g) (λ m. s.methods (key_in c m)) (λ m i. ap s.methods (key_sound c m n g i) ∙ e) c.methods

  name_of : (p : NamedProgram) (t : Text) (c : NamedClass) → class_named p t ≡ Some c → c.name ≡ t
  name_of p t c e = text_sound c.name t (found_in (λ c. text_eq c.name t) p.classes c e).passes

  abbrev in_class : Option NamedClass → MethodKey → Option NamedMethod
  in_class o k = elim o [ Some c ↦ method_in c k.name k.signature | None ↦ None ]

  same_in : (p : NamedProgram) (k : MethodKey) (o : Option NamedClass) → class_named p k.class ≡ o → s.methods k ≡ true → in_class (option_map (left_in s) o) k ≡ in_class o k
  same_in p k None e l = refl
  same_in p k (Some c) e l = method_left c k.name k.signature (ap (λ t. s.methods (key t k.name k.signature)) (name_of p k.class c e) ∙ l)

  -- a live method of a live class is defined in what is left as it was
  pub defined_left : (p : NamedProgram) (k : MethodKey) → s.classes k.class ≡ true → s.methods k ≡ true → defined_method (left_of s p) k ≡ defined_method p k
  defined_left p k h l = ap (λ o. in_class o k) (class_left s p k.class (λ i. h)) ∙ same_in p k (class_named p k.class) refl l

  pub body_left : (p : NamedProgram) (k : MethodKey) → s.classes k.class ≡ true → s.methods k ≡ true → bodies_of (left_of s p) k ≡ bodies_of p k
  body_left p k h l = ap (option_and_then (λ m. m.body)) (defined_left p k h l)
