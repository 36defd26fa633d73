-- The line of a class, which ends with the first interface, in what is left of a program.
use Rattle.std.proofs.Common.{◌≡◌, ℕ, zero, suc, Bool, true, false, List, [], ◌∷◌, length, refl, sym, ap, ◌∙◌}
use Rattle.std.specs.Prelude.{Option, Some, None, map, if◌then◌else◌}
use Rattle.dalvik_defs.specs.Names.{Text}
use Rattle.dalvik_defs.specs.Flags.{is_interface}
use Rattle.dalvik_defs.specs.Under.{class_named}
use Rattle.dalvik_defs.specs.Find.{chain_from}
use Rattle.dalvik_defs.specs.declared.program.NamedClass.{NamedClass}
use Rattle.dalvik_defs.specs.declared.program.NamedProgram.{NamedProgram}
use Rattle.pass_defs.specs.Kinds.{line_from, line_of}
use Rattle.pass_defs.specs.Live.{Family, KeepsAbove}
use Rattle.removal_law.specs.Left.{left_in, left_of}
use Rattle.removal_law.specs.Reach.{IsRegular}
use Rattle.removal_law.proofs.Lists.{In, here, there}
use Rattle.removal_law.proofs.Classes.{Kept}
use Rattle.removal_law.proofs.Trees.{Tree, absent, present, tree}

-- the line from a class that was looked up
abbrev line_at : NamedProgram → ℕ → Option NamedClass → List NamedClass
line_at r n o = elim o as (λ o. List NamedClass) [ Some c ↦ c ∷ (if is_interface c.flags then [] else line_from n r c.superclass) | None ↦ [] ]

line_none : (r : NamedProgram) (n : ℕ) (t : Text) → class_named r t ≡ None → line_from n r t ≡ []
line_none r zero t e = refl
line_none r (suc n) t e = ap (line_at r n) e

module _ (p : NamedProgram) (s : Family) (above : KeepsAbove p s) where
  abbrev q : NamedProgram
  q = left_of s p

  line_left : (n m : ℕ) (t : Text) → Tree p s above n m t → line_from n q t ≡ map (left_in s) (line_from m p t)
  line_left n m t (absent k l u e i) = line_none q n t i ∙ sym (ap (map (left_in s)) (line_none p m t e))
  line_left (suc n) (suc m) t (present k l u c e i sub) = ap (line_at q n) i
      ∙ by (is_interface c.flags) (line_left n m c.superclass (sub c.superclass (here c.interfaces)))
      ∙ sym (ap (λ o. map (left_in s) (line_at p m o)) e)
    where
      by : (b : Bool) → line_from n q c.superclass ≡ map (left_in s) (line_from m p c.superclass)
          → (left_in s c ∷ (if b then [] else line_from n q c.superclass)) ≡ map (left_in s) (c ∷ (if b then [] else line_from m p c.superclass))
      by true r = refl
      by false r = ap (λ cs. left_in s c ∷ cs) r

  pub line_same : IsRegular p → (t : Text) → Kept s p t → line_of q t ≡ map (left_in s) (line_of p t)
  line_same regular t h = line_left (length q.classes) (length p.classes) t (tree p s above regular t h)

-- the line is part of the chain
pub line_in_chain : (p : NamedProgram) (m : ℕ) (t : Text) (c : NamedClass) → In c (line_from m p t) → In c (chain_from m p t)
line_in_chain p zero t c i = elim i [ ]
line_in_chain p (suc m) t c i = by (class_named p t) i (line_in_chain p m)
  where
    head : (d : NamedClass) (b : Bool) → In c (d ∷ (if b then [] else line_from m p d.superclass)) → ((t : Text) (c : NamedClass) → In c (line_from m p t) → In c (chain_from m p t)) → In c (d ∷ chain_from m p d.superclass)
    head d b (here ds) r = here (chain_from m p d.superclass)
    head d true (there y ds j) r = elim j [ ]
    head d false (there y ds j) r = there d (chain_from m p d.superclass) (r d.superclass c j)

    by : (o : Option NamedClass) → In c (line_at p m o) → ((t : Text) (c : NamedClass) → In c (line_from m p t) → In c (chain_from m p t)) → In c (elim o as (λ o. List NamedClass) [ Some c ↦ c ∷ chain_from m p c.superclass | None ↦ [] ])
    by None j r = elim j [ ]
    by (Some d) j r = head d (is_interface d.flags) j r
