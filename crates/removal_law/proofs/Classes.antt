-- Classes by their names, in what is left of a program.
use Rattle.std.proofs.Common.{◌≡◌, ◌≤◌, Bool, true, false, List, [], ◌∷◌, length, refl, sym, ap, ◌∙◌, arith}
use Rattle.std.specs.Prelude.{cond, Option, Some, None, map, filter, find}
use Rattle.std.specs.Option.{option_map}
use Rattle.dalvik_defs.specs.Names.{Text, text_eq}
use Rattle.dalvik_defs.specs.Under.{class_named, defines}
use Rattle.dalvik_defs.specs.declared.program.NamedClass.{NamedClass}
use Rattle.dalvik_defs.specs.declared.program.NamedProgram.{NamedProgram}
use Rattle.dalvik_defs.proofs.Calm.{text_sound}
use Rattle.pass_defs.specs.Live.{Family}
use Rattle.removal_law.specs.Left.{left_in, left_of}
use Rattle.removal_law.proofs.Lists.{clash}

module _ (s : Family) where
  abbrev left : List NamedClass → List NamedClass
  left cs = map (left_in s) (filter (λ c. s.classes c.name) cs)

  -- the class at the head goes by its name and by whether it is live
  left_head : (c : NamedClass) (cs : List NamedClass) (d : Bool) → s.classes c.name ≡ d → left (c ∷ cs) ≡ cond d (left_in s c ∷ left cs) (left cs)
  left_head c cs true e = ap (λ d. map (left_in s) (cond d (c ∷ filter (λ c. s.classes c.name) cs) (filter (λ c. s.classes c.name) cs))) e
  left_head c cs false e = ap (λ d. map (left_in s) (cond d (c ∷ filter (λ c. s.classes c.name) cs) (filter (λ c. s.classes c.name) cs))) e

  abbrev seek : Text → List NamedClass → Option NamedClass
  seek t cs = find (λ c. text_eq c.name t) cs

  module _ (t : Text) (c : NamedClass) (cs : List NamedClass) where
    live_step : s.classes t ≡ true → seek t (left cs) ≡ option_map (left_in s) (seek t cs) → (b d : Bool) → text_eq c.name t ≡ b → s.classes c.name ≡ d
        → seek t (left (c ∷ cs)) ≡ option_map (left_in s) (seek t (c ∷ cs))
    live_step l h true true x y = ap (seek t) (left_head c cs true y) ∙ ap (λ b. cond b (Some (left_in s c)) (seek t (left cs))) x ∙ sym (ap (λ b. option_map (left_in s) (cond b (Some c) (seek t cs))) x)
    live_step l h true false x y = clash (s.classes c.name) (ap s.classes (text_sound c.name t x) ∙ l) y
    live_step l h false true x y = ap (seek t) (left_head c cs true y) ∙ ap (λ b. cond b (Some (left_in s c)) (seek t (left cs))) x ∙ h ∙ sym (ap (λ b. option_map (left_in s) (cond b (Some c) (seek t cs))) x)
    live_step l h false false x y = ap (seek t) (left_head c cs false y) ∙ h ∙ sym (ap (λ b. option_map (left_in s) (cond b (Some c) (seek t cs))) x)

    dead_step : s.classes t ≡ false → seek t (left cs) ≡ None → (b d : Bool) → text_eq c.name t ≡ b → s.classes c.name ≡ d → seek t (left (c ∷ cs)) ≡ None
    dead_step l h true true x y = clash (s.classes t) (sym (ap s.classes (text_sound c.name t x)) ∙ y) l
    dead_step l h false true x y = ap (seek t) (left_head c cs true y) ∙ ap (λ b. cond b (Some (left_in s c)) (seek t (left cs))) x ∙ h
    dead_step l h b false x y = ap (seek t) (left_head c cs false y) ∙ h

  live_found : (t : Text) → s.classes t ≡ true → (cs : List NamedClass) → seek t (left cs) ≡ option_map (left_in s) (seek t cs)
  live_found t l [] = refl
  live_found t l (c ∷ cs) = live_step t c cs l (live_found t l cs) (text_eq c.name t) (s.classes c.name) refl refl

  pub dead_found : (t : Text) → s.classes t ≡ false → (cs : List NamedClass) → seek t (left cs) ≡ None
  dead_found t l [] = refl
  dead_found t l (c ∷ cs) = dead_step t c cs l (dead_found t l cs) (text_eq c.name t) (s.classes c.name) refl refl

  -- no more classes are left than there were
  pub fewer : (cs : List NamedClass) → length (left cs) ≤ length cs
  fewer [] = omega arith
  fewer (c ∷ cs) = by (s.classes c.name) refl (fewer cs)
    where
      by : (d : Bool) → s.classes c.name ≡ d → length (left cs) ≤ length cs → length (left (c ∷ cs)) ≤ length (c ∷ cs)
      by true e h = let i : length (left (c ∷ cs)) ≡ length (left_in s c ∷ left cs) = ap length (left_head c cs true e) in omega (arith, i, h)
      by false e h = let i : length (left (c ∷ cs)) ≡ length (left cs) = ap length (left_head c cs false e) in omega (arith, i, h)

  -- the program defines a type only if it is live
  abbrev pub Kept : NamedProgram → Text → Type 0
  Kept p t = defines p t ≡ true → s.classes t ≡ true

  undefined : (o : Option NamedClass) → elim o [ Some c ↦ true | None ↦ false ] ≡ false → o ≡ None
  undefined None e = refl
  undefined (Some c) e = clash true refl e

  pub class_left : (p : NamedProgram) (t : Text) → Kept p t → class_named (left_of s p) t ≡ option_map (left_in s) (class_named p t)
  class_left p t h = by (s.classes t) refl (defines p t) refl
    where
      by : (d : Bool) → s.classes t ≡ d → (b : Bool) → defines p t ≡ b → class_named (left_of s p) t ≡ option_map (left_in s) (class_named p t)
      by true e b i = live_found t e p.classes
      by false e true i = clash (s.classes t) (h i) e
      by false e false i = dead_found t e p.classes ∙ sym (ap (option_map (left_in s)) (undefined (class_named p t) i))

  -- what a program defines no more it may have defined
  pub left_less : (p : NamedProgram) (t : Text) → defines p t ≡ false → class_named (left_of s p) t ≡ None
  left_less p t e = class_left p t (λ i. clash (defines p t) i e) ∙ ap (option_map (left_in s)) (undefined (class_named p t) e)
