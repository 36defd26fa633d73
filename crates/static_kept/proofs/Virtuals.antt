-- The virtual methods of a program in which methods are static are some of those that it had.
use Rattle.std.proofs.Common.{◌≡◌, ℕ, Bool, true, false, Option, Some, None, refl, sym, ap, ◌∙◌, subst}
use Rattle.std.specs.Prelude.{◌&&◌, not, Contains}
use Rattle.lemmas.proofs.Options.{before_map}
use Rattle.program_model.specs.declared.program.Program.{Program}
use Rattle.class_defs.specs.ClassGraph.{IsTwice}
use Rattle.dalvik_defs.specs.Find.{is_virtual_method}
use Rattle.dalvik_defs.specs.Flags.{is_private, is_special, is_static}
use Rattle.dalvik_defs.specs.Names.{Text}
use Rattle.dalvik_defs.specs.Naming.{named}
use Rattle.dalvik_defs.specs.Silence.{key_in}
use Rattle.dalvik_defs.specs.Under.{class_named}
use Rattle.dalvik_defs.specs.declared.names.MethodKey.{MethodKey}
use Rattle.dalvik_defs.specs.declared.program.NamedClass.{NamedClass}
use Rattle.dalvik_defs.specs.declared.program.NamedMethod.{NamedMethod}
use Rattle.dalvik_defs.specs.declared.program.NamedProgram.{NamedProgram}
use Rattle.name_bridge.proofs.Tables.{Sound}
use Rattle.pass_defs.specs.Loose.{static_class, static_method, staticised}
use Rattle.removal_law.specs.Left.{In}
use Rattle.removal_law.specs.Reach.{TellsApart}
use Rattle.removal_law.proofs.Lists.{clash, contained}
use Rattle.program_laws.specs.Remade.{Remethod, SameMethods, class_remade, remade}
use Rattle.program_laws.proofs.Remade.{class_same}
use Rattle.static_law.specs.Static.{IsSound, made_static}
use Rattle.static_law.proofs.Declared.{from_map, turned_static}
use Rattle.static_law.proofs.Methods.{stays}
use Rattle.static_law.specs.Edited.{IsEdited, IsPlanned, loose_in}
use Rattle.static_law.proofs.Programs.{in_from, named_now, new, same_methods}
use Rattle.program_laws.specs.Virtual.{HasVirtual, VirtualsStay}

module _ (p : NamedProgram) (loose : MethodKey → Bool) (sound : IsSound p loose) (tells : TellsApart p) (new : Remethod) (same : SameMethods new (staticised p loose)) where
  no_virtual : (a b c : Bool) → a ≡ true → (not a && b && c) ≡ true → ⊥
  no_virtual a b c s v = clash (not a && b && c) v (ap (λ a. not a && b && c) s)

  was_virtual : (t : Text) (c : NamedClass) (m : NamedMethod) → class_named p t ≡ Some c → In m c.methods → is_virtual_method (static_method p loose c m) ≡ true → HasVirtual p (key_in c (static_method p loose c m))
  was_virtual t c m e i v = by (loose (key_in c m)) refl
    where
      x : NamedMethod
      x = static_method p loose c m

      by : (b : Bool) → loose (key_in c m) ≡ b → HasVirtual p (key_in c x)
      by true l = absurd (no_virtual (is_static x.flags) (not (is_private x.flags)) (not (is_special x.name)) (turned_static p loose sound tells t c m e i l) v)
      by false l = record {
        type = t;
        class = c;
        method = m;
        named = e;
        is_in = contained m c.methods i;
        virtual = sym (ap is_virtual_method (stays p loose c m l)) ∙ v;
        key = sym (ap (key_in c) (stays p loose c m l));
      }

  pub virtuals_left : VirtualsStay p (remade new (staticised p loose))
  virtuals_left t d x e j v =
      let a = before_map (class_remade new) (class_named (staticised p loose) t) d (sym (class_same new (staticised p loose) t) ∙ e) in
      let b = before_map (static_class p loose) (class_named p t) a.0 (sym (class_same (made_static p loose) p t) ∙ a.1.0) in
      let i : In x d.methods = in_from d.methods x j in
      let there : In x a.0.methods = same.to t a.0 a.1.0 x (subst (λ (c : NamedClass). In x c.methods) (sym a.1.1) i) in
      let m = from_map (static_method p loose b.0) b.0.methods x (subst (λ (c : NamedClass). In x c.methods) (sym b.1.1) there) in
      let key : key_in b.0 x ≡ key_in d x = ap (λ (c : NamedClass). key_in c x) b.1.1 ∙ ap (λ (c : NamedClass). key_in c x) a.1.1 in
      subst (HasVirtual p) key (subst (λ y. HasVirtual p (key_in b.0 y)) m.image (was_virtual t b.0 m.source b.1.0 m.is_in (subst (λ y. is_virtual_method y ≡ true) (sym m.image) v)))

module _ (given target : ℕ → Option ℕ) (p q : Program) (s : Sound p) (twice : (class : ℕ) → IsTwice p class → ⊥) (edited : IsEdited given target p q) (planned : IsPlanned p given target) where
  pub virtuals_stay : IsSound (named p) (loose_in p given) → TellsApart (named p) → VirtualsStay (named p) (named q)
  virtuals_stay sound tells = subst (VirtualsStay (named p)) (sym (named_now given target p q s twice edited planned))
      (virtuals_left (named p) (loose_in p given) sound tells (new given target p q s twice edited planned) (same_methods given target p q s twice edited planned))
