-- Sets of names.
use Rattle.std.proofs.Common.{◌≡◌, ℕ, ◌≤◌, ◌||◌, ◌&&◌, Bool, true, false, not, List, [], ◌∷◌, ◌++◌, nat_eq, map, take, length, Bor, refl, sym, ap, ◌∙◌, eqb-true, take_all}
use Rattle.std.specs.List.{list_any}
use Rattle.std.specs.List.Sorted.{IsPermutation}
use Rattle.std.proofs.lemmas.List.Sorted.{list_any-IsPermutation}
use Rattle.std.proofs.lemmas.List.Folds.{list_any-append}
use Rattle.dalvik_defs.specs.Names.{text_eq}
use Rattle.dalvik_defs.specs.Known.{known_rows}
use Rattle.dalvik_defs.specs.declared.tables.FrameworkType.{FrameworkType}
use Rattle.text_defs.specs.Plays.{has_row}
use Rattle.script_text.specs.Named.{has_name, Knows}
use Rattle.script_text.specs.declared.names.TypeNames.{TypeNames}

-- a list with one more name somewhere
pub name_added : {K : Type 0} (text : K → List ℕ) (key : K) (old new : List K) (other : List ℕ) → IsPermutation (key ∷ old) new
    → list_any (λ k. text_eq other (text k)) new ≡ (text_eq other (text key) || list_any (λ k. text_eq other (text k)) old)
name_added text key old new other h = sym (list_any-IsPermutation (λ k. text_eq other (text k)) (key ∷ old) new h)

split_and : (a b : Bool) → a && b ≡ true → (a ≡ true) × (b ≡ true)
split_and true b h = (refl, h)
split_and false b h = cc

same_text : (a b : List ℕ) → text_eq a b ≡ true → a ≡ b
same_text [] [] h = refl
same_text [] (y ∷ ys) h = cc
same_text (x ∷ xs) [] h = cc
same_text (x ∷ xs) (y ∷ ys) h =
    let s = split_and (nat_eq x y) (text_eq xs ys) h in
    let f : x ≡ y = eqb-true x y s.0 in
    let r : xs ≡ ys = same_text xs ys s.1 in cc

-- a name that was there already
kept : (old : List ℕ → Bool) (name other : List ℕ) (b : Bool) → text_eq other name ≡ b → old name ≡ true → old other ≡ (b || old other)
kept old name other true e there = ap old (same_text other name e) ∙ there
kept old name other false e there = refl

not_false : (b : Bool) → false ≡ not b → b ≡ true
not_false true h = refl
not_false false h = cc

-- a name that may be there already
pub name_known : (old new : List ℕ → Bool) (name : List ℕ) (added : Bool) → added ≡ not (old name)
    → (added ≡ true → (o : List ℕ) → new o ≡ (text_eq o name || old o)) → (added ≡ false → (o : List ℕ) → new o ≡ old o)
    → (o : List ℕ) → new o ≡ (text_eq o name || old o)
name_known old new name true is more same o = more refl o
name_known old new name false is more same o = same refl o ∙ kept old name o (text_eq o name) refl (not_false (old name) is)

moved : (t k r : Bool) → (t || (k || r)) ≡ (k || (r || (t || false)))
moved true true r = refl
moved true false true = refl
moved true false false = refl
moved false true r = refl
moved false false true = refl
moved false false false = refl

-- a row more
pub knows_more : (old new : TypeNames) (rows grown : List FrameworkType) (row : FrameworkType) → Knows old rows
    → ((o : List ℕ) → has_name new o ≡ (text_eq o row.name || has_name old o)) → grown ≡ rows ++ row ∷ [] → Knows new grown
knows_more old new rows grown row knows more is = record {
  says = λ o. more o ∙ ap (λ b. text_eq o row.name || b) (knows.says o)
      ∙ moved (text_eq o row.name) (has_row known_rows o) (has_row rows o)
      ∙ ap (λ b. has_row known_rows o || b) (sym (list_any-append (λ r. text_eq o r.name) rows (row ∷ [])))
      ∙ ap (λ rs. has_row known_rows o || has_row rs o) (sym is);
}

any_now : (o : List ℕ) (pieces : List (Bor (List ℕ))) → list_any (λ k. text_eq o k.now) pieces ≡ list_any (text_eq o) (map (λ k. k.now) pieces)
any_now o [] = refl
any_now o (p ∷ pieces) = ap (λ b. text_eq o p.now || b) (any_now o pieces)

any_name : (o : List ℕ) (rows : List FrameworkType) → list_any (text_eq o) (map (λ r. r.name) rows) ≡ has_row rows o
any_name o [] = refl
any_name o (r ∷ rows) = ap (λ b. text_eq o r.name || b) (any_name o rows)

-- the names of the known rows
pub all_known : (o : List ℕ) (pieces : List (Bor (List ℕ))) (i : ℕ) → length pieces ≤ i → map (λ k. k.now) pieces ≡ map (λ r. r.name) known_rows
    → list_any (λ k. text_eq o k.now) (take i pieces) ≡ has_row known_rows o
all_known o pieces i all is =
    rw (take_all i pieces all) (any_now o pieces ∙ ap (list_any (text_eq o)) is ∙ any_name o known_rows)
