-- The classes and methods of the program in which methods are static, and those that they were.
use Rattle.std.proofs.Common.{◌≡◌, Bool, true, false, List, [], ◌∷◌, map, Option, Some, None, refl, sym, ap, ◌∙◌, subst}
use Rattle.std.specs.Prelude.{◌&&◌, not, if◌then◌else◌}
use Rattle.std.specs.Option.{option_map}
use Rattle.lemmas.proofs.Options.{before_map}
use Rattle.dalvik_defs.specs.Find.{is_virtual_method}
use Rattle.dalvik_defs.specs.Flags.{is_private, is_special, is_static}
use Rattle.dalvik_defs.specs.Names.{Text}
use Rattle.dalvik_defs.specs.Silence.{key_in}
use Rattle.dalvik_defs.specs.Under.{class_named}
use Rattle.dalvik_defs.specs.declared.names.MethodKey.{MethodKey}
use Rattle.dalvik_defs.specs.declared.program.NamedBody.{NamedBody}
use Rattle.dalvik_defs.specs.declared.program.NamedClass.{NamedClass}
use Rattle.dalvik_defs.specs.declared.program.NamedMethod.{NamedMethod}
use Rattle.dalvik_defs.specs.declared.program.NamedProgram.{NamedProgram}
use Rattle.pass_defs.specs.Loose.{loosened, static_body, static_class, static_method, staticised}
use Rattle.removal_law.specs.Left.{In}
use Rattle.removal_law.specs.Reach.{NamesOnce, TellsApart}
use Rattle.removal_law.proofs.Lists.{clash}
use Rattle.program_laws.specs.Remade.{Remethod, SameMethods, class_remade, remade}
use Rattle.program_laws.proofs.Remade.{class_same}
use Rattle.static_law.specs.Static.{IsSound, made_static}
use Rattle.static_law.proofs.Declared.{from_map, turned_static}
use Rattle.static_law.proofs.Methods.{recalled, stays}

module _ (p : NamedProgram) (loose : MethodKey → Bool) (names : NamesOnce p) (new : Remethod) (same : SameMethods new (staticised p loose)) where
  abbrev pub static : NamedProgram
  static = staticised p loose

  -- the class that a class was
  pub record ClassWas (d : NamedClass) : Type 0 where
    pub class : NamedClass
    pub is_in : In class p.classes
    pub named : class_named p class.name ≡ Some class
    pub is : class_remade new (static_class p loose class) ≡ d

  pub class_was : (d : NamedClass) → In d (remade new static).classes → ClassWas d
  class_was d i =
      let a = from_map (class_remade new) static.classes d i in
      let b = from_map (static_class p loose) p.classes a.source a.is_in in
      record { class = b.source; is_in = b.is_in; named = names b.source b.is_in; is = ap (class_remade new) b.image ∙ a.image }

  pub static_named : (c : NamedClass) → In c p.classes → class_named static c.name ≡ Some (static_class p loose c)
  static_named c i = class_same (made_static p loose) p c.name ∙ ap (option_map (static_class p loose)) (names c i)

  -- the method that a method was
  pub record MethodWas (c : NamedClass) (x : NamedMethod) : Type 0 where
    pub method : NamedMethod
    pub is_in : In method c.methods
    pub is : static_method p loose c method ≡ x

  pub method_was : (d : NamedClass) (w : ClassWas d) (x : NamedMethod) → In x d.methods → MethodWas w.class x
  method_was d w x i =
      let there : In x (map (static_method p loose w.class) w.class.methods) = same.to w.class.name (static_class p loose w.class) (static_named w.class w.is_in) x (subst (λ (c : NamedClass). In x c.methods) (sym w.is) i) in
      let m = from_map (static_method p loose w.class) w.class.methods x there in
      record { method = m.source; is_in = m.is_in; is = m.image }

  -- its code
  pub body_is : (c : NamedClass) (m : NamedMethod) → (static_method p loose c m).body ≡ option_map (static_body p loose) m.body
  body_is c m = by (loose (key_in c m))
    where
      by : (b : Bool) → (if b then loosened (key_in c m) (recalled p loose m) else recalled p loose m).body ≡ option_map (static_body p loose) m.body
      by true = refl
      by false = refl

  module _ (sound : IsSound p loose) (tells : TellsApart p) where
    no_virtual : (a b c : Bool) → a ≡ true → (not a && b && c) ≡ true → ⊥
    no_virtual a b c s v = clash (not a && b && c) v (ap (λ a. not a && b && c) s)

    -- a virtual method isn't made static
    pub virtual_stays : (c : NamedClass) (m : NamedMethod) → In c p.classes → In m c.methods → is_virtual_method (static_method p loose c m) ≡ true → loose (key_in c m) ≡ false
    virtual_stays c m j i v = by (loose (key_in c m)) refl
      where
        by : (b : Bool) → loose (key_in c m) ≡ b → b ≡ false
        by false l = refl
        by true l = absurd (no_virtual (is_static (static_method p loose c m).flags) (not (is_private (static_method p loose c m).flags)) (not (is_special (static_method p loose c m).name))
            (turned_static p loose sound tells c.name c m (names c j) i l) v)
