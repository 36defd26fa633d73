-- Programs that are the same but for bodies and lines are the same once each body is replaced by an empty one, so they have
-- one face.
use Rattle.std.proofs.Common.{◌≡◌, Bool, true, false, List, [], ◌∷◌, refl, sym, ap, ap₂, ◌∙◌}
use Rattle.std.specs.Prelude.{Option, Some, None, map, is_some}
use Rattle.dalvik_defs.specs.Face.{face_of}
use Rattle.dalvik_defs.specs.declared.program.NamedBody.{NamedBody}
use Rattle.dalvik_defs.specs.declared.program.NamedMethod.{NamedMethod}
use Rattle.dalvik_defs.specs.declared.program.NamedClass.{NamedClass}
use Rattle.dalvik_defs.specs.declared.program.NamedProgram.{NamedProgram}
use Rattle.dalvik_defs.specs.declared.tables.Framework.{Framework}
use Rattle.program_laws.specs.Bodies.{Change, method_changed, class_changed, changed, KeepsCode}
use Rattle.program_laws.proofs.ChangedFaces.{face_same}
use Rattle.program_laws.specs.Others.{Pairwise, Codes, OtherMethod, OtherClass, OtherBodies}

pub pairwise_maps : {A B : Type 0} (R : A → A → Type 0) (f g : A → B) → ((x y : A) → R x y → f y ≡ g x) → (xs ys : List A) → Pairwise R xs ys → map f ys ≡ map g xs
pairwise_maps R f g h [] [] r = refl
pairwise_maps R f g h [] (y ∷ ys) r = absurd r
pairwise_maps R f g h (x ∷ xs) [] r = absurd r
pairwise_maps R f g h (x ∷ xs) (y ∷ ys) r = ap₂ (λ z zs. z ∷ zs) (h x y r.0) (pairwise_maps R f g h xs ys r.1)

abbrev pub empty : NamedBody
empty = record { registers = 0; ins = 0; forms = []; regions = [] }

abbrev pub blank_if : Bool → Option NamedBody
blank_if true = Some empty
blank_if false = None

abbrev pub blank : Change
blank c m = record { body = blank_if (is_some m.body); lines = [] }

pub blank_coded : KeepsCode blank
blank_coded c m = by (is_some m.body)
  where
    by : (b : Bool) → is_some (blank_if b) ≡ b
    by true = refl
    by false = refl

module _ (R : Codes) where
  method_blank : (c d : NamedClass) (m n : NamedMethod) → OtherMethod R c m n → method_changed blank d n ≡ method_changed blank c m
  method_blank c d m n h = ap (λ b. record n { body = blank_if b; lines = [] }) h.coded ∙ ap (λ (x : NamedMethod). record x { body = blank_if (is_some m.body); lines = [] }) h.same

  class_blank : (c d : NamedClass) → OtherClass R c d → class_changed blank d ≡ class_changed blank c
  class_blank c d h = ap (λ (x : NamedClass). record x { methods = map (method_changed blank d) d.methods }) h.same
      ∙ ap (λ l. record c { methods = l }) (pairwise_maps (OtherMethod R c) (method_changed blank d) (method_changed blank c) (method_blank c d) c.methods d.methods h.methods)

  pub program_blank : (p q : NamedProgram) → OtherBodies R p q → changed blank q ≡ changed blank p
  program_blank p q h = ap (λ (x : NamedProgram). record x { classes = map (class_changed blank) q.classes }) h.same
      ∙ ap (λ l. record p { classes = l }) (pairwise_maps (OtherClass R) (class_changed blank) (class_changed blank) class_blank p.classes q.classes h.classes)

  pub others_face : (p q : NamedProgram) → OtherBodies R p q → (f : Framework) → face_of q f ≡ face_of p f
  others_face p q h f = sym (face_same blank q blank_coded f) ∙ ap (λ x. face_of x f) (program_blank p q h) ∙ face_same blank p blank_coded f
