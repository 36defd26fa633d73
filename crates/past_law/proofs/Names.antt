-- The names of items: which value, set or class one belongs to.
use Rattle.std.proofs.Common.{◌≡◌, ◌≤◌, ◌<◌, ◌⊎◌, inl, inr, ℕ, ◌+◌, cond, ltb, eqb, List, [], ◌∷◌, ◌++◌, length, sym, ap, ◌∙◌, arith}
use Rattle.std.specs.Prelude.{slice_index}
use Rattle.std.proofs.lemmas.List.{length-append, append_assoc}

-- ---- which set or class an item belongs to

abbrev pub rest : List ℕ → List ℕ
rest [] = []
rest (x ∷ xs) = xs

-- the name of the outermost value round one: a first value of a class, or a value of an annotation of a set
abbrev pub root_of : List ℕ → List ℕ
root_of [] = []
root_of (tag ∷ []) = tag ∷ []
root_of (tag ∷ i ∷ way) = cond (ltb tag 2) (tag ∷ i ∷ way) (root_of way)

-- 4 for first values, 2 for sets
abbrev pub sort_at : List ℕ → ℕ
sort_at root = cond (eqb (slice_index root 0) 0) 4 2

-- the class, or the name of the set
abbrev pub owner_at : List ℕ → List ℕ
owner_at root = cond (eqb (slice_index root 0) 0) (rest (rest root)) (rest (rest (rest root)))

-- the same of an item by its name: one of an array or an annotation lies in a value, or is the outermost
abbrev pub sort_inside : List ℕ → ℕ
sort_inside w = cond (eqb (slice_index w 2) 0) (cond (eqb (slice_index w 0) 4) 4 2) (sort_at (root_of (rest (rest (rest w)))))

abbrev pub owner_inside : List ℕ → List ℕ
owner_inside w = cond (eqb (slice_index w 2) 0) (cond (eqb (slice_index w 0) 4) (rest (rest (rest w))) (rest (rest (rest (rest w))))) (owner_at (root_of (rest (rest (rest w)))))

-- 0 for protos, 1 for interfaces, 2 for sets, 3 for lists of sets, 4 for first values, and more for code
abbrev pub sort_of : List ℕ → ℕ
sort_of w = cond (ltb (slice_index w 0) 4) (slice_index w 0) (cond (ltb (slice_index w 0) 6) (sort_inside w) (slice_index w 0))

abbrev pub owner_of : List ℕ → List ℕ
owner_of w = cond (ltb (slice_index w 0) 2) (slice_index w 1 ∷ []) (cond (ltb (slice_index w 0) 4) (rest (rest w)) (cond (ltb (slice_index w 0) 6) (owner_inside w) (slice_index w 1 ∷ [])))

-- the class of a set is the first number of its name, but for a set of a parameter
abbrev pub class_in : List ℕ → ℕ
class_in owner = cond (ltb (length owner) 3) (slice_index owner 0) (slice_index owner 1)

-- ---- names that lie under another

-- the name ends as this one, behind so many numbers at least, and belongs there
pub record Under (way : List ℕ) (least sort : ℕ) (owner : List ℕ) (w : List ℕ) : Type 0 where
  pub front : List ℕ
  pub is : w ≡ front ++ way
  pub long : least ≤ length front
  pub has_sort : sort_of w ≡ sort
  pub has_owner : owner_of w ≡ owner

no_end : (x : ℕ) (g a b : List ℕ) → a ≡ x ∷ (g ++ b) → length a ≡ length b → ⊥
no_end x g a b e same = let long : length a ≡ length (x ∷ (g ++ b)) = ap (λ (l : List ℕ). length l) e in omega (arith, long, same, length-append g b)

pub same_end : (f g a b : List ℕ) → f ++ a ≡ g ++ b → length a ≡ length b → a ≡ b
same_end [] [] a b e same = e
same_end [] (x ∷ g) a b e same = absurd (no_end x g a b e same)
same_end (x ∷ f) [] a b e same = absurd (no_end x f b a (sym e) (sym same))
same_end (x ∷ f) (y ∷ g) a b e same = same_end f g a b (ap rest e) same

-- how long such a name is
pub under_long : (way : List ℕ) (least sort : ℕ) (owner w : List ℕ) → Under way least sort owner w → length way + least ≤ length w
under_long way least sort owner w u = let long = u.long in
    let all : length w ≡ length (u.front ++ way) = ap (λ (l : List ℕ). length l) u.is in omega (arith, long, all, length-append u.front way)

pub deeper : (front way : List ℕ) (more least sort : ℕ) (owner w : List ℕ) → more ≤ least + length front → Under (front ++ way) least sort owner w → Under way more sort owner w
deeper front way more least sort owner w enough u = record {
  front = u.front ++ front;
  is = u.is ∙ sym (append_assoc u.front front way);
  long = let long = u.long in omega (arith, long, enough, length-append u.front front);
  has_sort = u.has_sort;
  has_owner = u.has_owner;
}

-- ---- a list's entries, each with what lies in it

-- the entry itself, or what lies in its value
abbrev pub Part : (own child : ℕ → List ℕ) (sort : ℕ) (owner : List ℕ) → ℕ → List ℕ → Type 0
Part own child sort owner i w = (w ≡ own i) ⊎ Under (child i) 3 sort owner w

-- entries and values are told apart by their numbers, and an entry is shorter than what lies in one
pub record AreApart (own child : ℕ → List ℕ) : Type 0 where
  pub owns : (i j : ℕ) → own i ≡ own j → i ≡ j
  pub children : (i j : ℕ) → child i ≡ child j → i ≡ j
  pub level : (i j : ℕ) → length (child i) ≡ length (child j)
  pub short : (i j : ℕ) → length (own i) < 3 + length (child j)

module _ (own child : ℕ → List ℕ) (apart : AreApart own child) (sort : ℕ) (owner : List ℕ) where
  pub own_apart : (i j : ℕ) (w : List ℕ) → w ≡ own i → Under (child j) 3 sort owner w → ⊥
  own_apart i j w e u =
      let all : length w ≡ length (own i) = ap (λ (l : List ℕ). length l) e in
      let short = apart.short i j in let long = under_long (child j) 3 sort owner w u in omega (arith, all, short, long)

  pub parts_apart : (i j : ℕ) (w : List ℕ) → Part own child sort owner i w → Part own child sort owner j w → i ≡ j
  parts_apart i j w (inl a) (inl b) = apart.owns i j (sym a ∙ b)
  parts_apart i j w (inl a) (inr b) = absurd (own_apart i j w a b)
  parts_apart i j w (inr a) (inl b) = absurd (own_apart j i w b a)
  parts_apart i j w (inr a) (inr b) = apart.children i j (same_end a.front b.front (child i) (child j) (sym a.is ∙ b.is) (apart.level i j))
