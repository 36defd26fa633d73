-- A program is typed with other bodies that are typed.
use Rattle.std.proofs.Common.{◌≡◌, ℕ, zero, suc, ◌<◌, false, List, [], ◌∷◌, length, refl, sym, ap, ◌∙◌, subst, arith}
use std.Path.{fun_ext}
use Rattle.std.specs.Prelude.{◌||◌, not, Some, Contains, map, slice_index_or}
use Rattle.dalvik_defs.specs.Names.{is_class_type}
use Rattle.dalvik_defs.specs.Flags.{is_interface, is_abstract}
use Rattle.dalvik_defs.specs.declared.program.NamedBody.{NamedBody}
use Rattle.dalvik_defs.specs.declared.program.NamedMethod.{NamedMethod}
use Rattle.dalvik_defs.specs.declared.program.NamedClass.{NamedClass}
use Rattle.dalvik_defs.specs.declared.program.NamedProgram.{NamedProgram}
use Rattle.pass_defs.specs.Typed.{Table, IsTyping, IsTyped}
use Rattle.program_laws.specs.Bodies.{Change, method_changed, class_changed, changed, KeepsCode}
use Rattle.program_laws.proofs.Heads.{at_class, plain_same, program_interface_same, nearest_same, field_same, resolves_same, super_same}
use Rattle.program_laws.proofs.AlikeLookUps.{Alike, typing_moved}

pub others_alike : (new : Change) → KeepsCode new → (p : NamedProgram) → Alike p (changed new p)
others_alike new keeps p = record {
  plain = plain_same new p;
  interface = program_interface_same new p;
  near = nearest_same new p;
  field = field_same new p;
  resolves = resolves_same new p keeps;
  super = super_same new p keeps;
  instance = fun_ext (λ t. ap (λ b. not (is_class_type t) || b) (at_class new p (λ c. is_abstract c.flags || is_interface c.flags) (λ c. is_abstract c.flags || is_interface c.flags) false (λ c. refl) t));
}

-- what stands in a list of images is an image
pub image : {A B : Type 0} (g : A → B) (xs : List A) (y : B) (k : ℕ) → k < length (map g xs) → slice_index_or (map g xs) k y ≡ y → (x : A) × (Contains xs x × (g x ≡ y))
image g [] y k lt e = absurd (omega (arith, lt))
image g (x ∷ xs) y zero lt e = (x, ((0, omega arith, refl), e))
image g (x ∷ xs) y (suc k) lt e =
    let r = image g xs y k (omega (arith, lt)) e in
    let h : r.1.0.0 < length xs = r.1.0.1 in
    (r.0, ((suc r.1.0.0, omega (arith, h), r.1.0.2), r.1.1))

module _ (new : Change) (keeps : KeepsCode new) (p : NamedProgram) where
  -- each new body has a typing
  abbrev pub NewTyped : Type 0
  NewTyped = (c : NamedClass) (m : NamedMethod) (b : NamedBody) → Contains p.classes c → Contains c.methods m → (new c m).body ≡ Some b → (t : Table) × IsTyping p c m b t

  typing_in : NewTyped → (c : NamedClass) (m : NamedMethod) (b : NamedBody) → Contains (map (class_changed new) p.classes) c → Contains c.methods m → m.body ≡ Some b → (t : Table) × IsTyping (changed new p) c m b t
  typing_in typed c m b i j e =
      let r = image (class_changed new) p.classes c i.0 i.1 i.2 in
      subst (λ x. (t : Table) × IsTyping (changed new p) x m b t) r.1.1 (in_class r.0 r.1.0 (subst (λ x. Contains x.methods m) (sym r.1.1) j))
    where
      in_class : (c : NamedClass) → Contains p.classes c → Contains (map (method_changed new c) c.methods) m → (t : Table) × IsTyping (changed new p) (class_changed new c) m b t
      in_class c i j =
          let r = image (method_changed new c) c.methods m j.0 j.1 j.2 in
          let h = typed c r.0 b i r.1.0 (ap (λ x. x.body) r.1.1 ∙ e) in (
            h.0,
            subst (λ x. IsTyping (changed new p) (class_changed new c) x b h.0) r.1.1
                (typing_moved p (changed new p) (others_alike new keeps p) c (map (method_changed new c) c.methods) r.0 (new c r.0) b h.0 h.1),
          )

  pub moved_typed : NewTyped → IsTyped (changed new p)
  moved_typed typed = record { bodies = typing_in typed }
