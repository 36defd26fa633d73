-- Programs whose classes have other methods have the same order of kinds.
use Rattle.std.proofs.Common.{◌≡◌, ℕ, zero, suc, Bool, true, false, List, [], ◌∷◌, refl, ap, ◌∙◌}
use std.Path.{fun_ext}
use Rattle.std.specs.Prelude.{◌||◌, not, Option, Some, None, map, find, length, if◌then◌else◌}
use Rattle.std.specs.List.{list_any}
use Rattle.std.specs.Option.{option_map}
use Rattle.dalvik_defs.specs.Names.{Text, text_eq, is_class_type}
use Rattle.dalvik_defs.specs.Flags.{is_interface, is_abstract}
use Rattle.dalvik_defs.specs.Under.{class_named}
use Rattle.dalvik_defs.specs.declared.program.NamedClass.{NamedClass}
use Rattle.dalvik_defs.specs.declared.program.NamedProgram.{NamedProgram}
use Rattle.pass_defs.specs.Kinds.{is_plain, is_program_interface, line_from, line_of, nearest}
use Rattle.pass_defs.specs.Typed.{wrong_instance}
use Rattle.program_laws.proofs.Heads.{class_case}
use Rattle.program_laws.proofs.ChangedLists.{find_same, any_map}
use Rattle.program_laws.specs.Remade.{Remethod, class_remade, remade}
use Rattle.program_laws.proofs.Remade.{class_same, at_class, count}

module _ (new : Remethod) (p : NamedProgram) where
  abbrev other : NamedClass → NamedClass
  other = class_remade new

  abbrev q : NamedProgram
  q = remade new p

  pub plain_same : is_plain q ≡ is_plain p
  plain_same = fun_ext (at_class new p (λ c. not (is_interface c.flags)) (λ c. not (is_interface c.flags)) false (λ c. refl))

  pub program_interface_same : is_program_interface q ≡ is_program_interface p
  program_interface_same = fun_ext (at_class new p (λ c. is_interface c.flags) (λ c. is_interface c.flags) false (λ c. refl))

  pub instance_same : wrong_instance q ≡ wrong_instance p
  instance_same = fun_ext (λ t. ap (λ b. not (is_class_type t) || b) (at_class new p (λ c. is_abstract c.flags || is_interface c.flags) (λ c. is_abstract c.flags || is_interface c.flags) false (λ c. refl) t))

  abbrev line_case : ℕ → NamedProgram → NamedClass → List NamedClass
  line_case n r c = c ∷ (if is_interface c.flags then [] else line_from n r c.superclass)

  line_from_same : (n : ℕ) (t : Text) → line_from n q t ≡ map other (line_from n p t)
  line_from_same zero t = refl
  line_from_same (suc n) t = ap (class_case (line_case n q) []) (class_same new p t) ∙ by (class_named p t) (line_from_same n)
    where
      ends : (c : NamedClass) (b : Bool) → line_from n q c.superclass ≡ map other (line_from n p c.superclass) → (if b then [] else line_from n q c.superclass) ≡ map other (if b then [] else line_from n p c.superclass)
      ends c true r = refl
      ends c false r = r

      by : (o : Option NamedClass) → ((u : Text) → line_from n q u ≡ map other (line_from n p u)) → class_case (line_case n q) [] (option_map other o) ≡ map other (class_case (line_case n p) [] o)
      by None r = refl
      by (Some c) r = ap (λ cs. other c ∷ cs) (ends c (is_interface c.flags) (r c.superclass))

  line_same : (t : Text) → line_of q t ≡ map other (line_of p t)
  line_same t = ap (λ n. line_from n q t) (count new p) ∙ line_from_same (length p.classes) t

  abbrev shared : List NamedClass → NamedClass → Bool
  shared ds c = list_any (λ d. text_eq c.name d.name) ds

  abbrev named_first : (NamedClass → Bool) → List NamedClass → Option Text
  named_first f cs = option_map (λ c. c.name) (find f cs)

  name_kept : (o : Option NamedClass) → option_map (λ (c : NamedClass). c.name) (option_map other o) ≡ option_map (λ c. c.name) o
  name_kept None = refl
  name_kept (Some c) = refl

  nearest_at : (s t : Text) → nearest q s t ≡ nearest p s t
  nearest_at s t =
      ap (λ cs. named_first (shared (line_of q t)) cs) (line_same s)
      ∙ ap (λ ds. named_first (shared ds) (map other (line_of p s))) (line_same t)
      ∙ ap (λ f. named_first f (map other (line_of p s))) (fun_ext (λ c. any_map (λ d. text_eq c.name d.name) other (line_of p t)))
      ∙ ap (option_map (λ (c : NamedClass). c.name)) (find_same other (shared (line_of p t)) (λ c. refl) (line_of p s))
      ∙ name_kept (find (shared (line_of p t)) (line_of p s))

  pub nearest_same : nearest q ≡ nearest p
  nearest_same = fun_ext (λ s. fun_ext (nearest_at s))
