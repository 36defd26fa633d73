-- How an answer grows.
use Rattle.std.proofs.Common.{◌≡◌, ◌∙◌, ℕ, zero, suc, ◌+◌, ◌<◌, ◌≤◌, ◌⊎◌, inl, inr, Bool, true, false, List, [], ◌∷◌, ◌++◌, length, take, get_or, refl, sym, ap, subst}
use Rattle.std.specs.Prelude.{slice_index_or, slice_set, Contains}
use Rattle.std.specs.List.{flat_map}
use Rattle.std.proofs.lemmas.List.{take_more, take_all, append-nil}
use Rattle.std.proofs.lemmas.List.Concat.{flat_map-append}
use Rattle.std.proofs.lemmas.List.Elements.{Contains-push, Contains-push_cases, Contains-append_left, Contains-append_right, Contains-append_cases}
use Rattle.call_targets.specs.declared.table.Link.{Link}
use Rattle.call_targets.specs.declared.table.Targets.{Targets}
use Rattle.call_targets.specs.Adding.{Note, Links, Leaves, Enters, Needs, IsNoted, IsMet, SameSizes, AddsBy, Adds, TurnsOn}
use Rattle.call_targets.proofs.Contained.{AtPlace, none_in, only_in, first_in}
use Rattle.call_targets.proofs.Growth.{set_cases, set_keeps, set_reached}

pub set_length : (l : List Bool) (n : ℕ) → length (slice_set l n true) ≡ length l
set_length [] n = refl
set_length (b ∷ bs) zero = refl
set_length (b ∷ bs) (suc n) = ap suc (set_length bs n)

-- a mark that is set
pub turned : (number : ℕ) (old new : List Bool) → new ≡ slice_set old number true → TurnsOn number old new
turned number old new e = record {
  long = ap length e ∙ set_length old number;
  keeps = λ n h. ap (λ l. slice_index_or l n true) e ∙ set_keeps old number n true h;
  on = ap (λ l. slice_index_or l number true) e ∙ set_reached old number;
  only = λ n h. elim (set_cases old number n (sym (ap (λ l. slice_index_or l n false) e) ∙ h)) [ inl s ↦ inr s | inr k ↦ inl k ];
}

pub same_sizes : (t : Targets) → SameSizes t t
same_sizes t = record { leaves = refl; entered = refl; begun = refl }

-- what adds nothing
pub by_same : (P : Note → Type 0) (t : Targets) → ((x : Note) → P x → ⊥) → AddsBy P t t
by_same P t none = record { keeps = λ x h. h; has = λ x p. absurd (none x p); only = λ x h. inl h; sizes = same_sizes t }

-- one claim is of what is added first or of what is added then
pub by_join : (P Q R : Note → Type 0) (a b c : Targets) → AddsBy P a b → AddsBy Q b c → ((x : Note) → R x → P x ⊎ Q x) → ((x : Note) → P x → R x) → ((x : Note) → Q x → R x) → AddsBy R a c
by_join P Q R a b c f g split left right = record {
  keeps = λ x h. g.keeps x (f.keeps x h);
  has = λ x r. elim (split x r) [ inl p ↦ g.keeps x (f.has x p) | inr q ↦ g.has x q ];
  only = λ x h. elim (g.only x h) [ inl e ↦ elim (f.only x e) [ inl d ↦ inl d | inr p ↦ inr (left x p) ] | inr q ↦ inr (right x q) ];
  sizes = record { leaves = g.sizes.leaves ∙ f.sizes.leaves; entered = g.sizes.entered ∙ f.sizes.entered; begun = g.sizes.begun ∙ f.sizes.begun };
}

-- another claim of the same
pub by_other : (P R : Note → Type 0) (a b : Targets) → AddsBy P a b → ((x : Note) → R x → P x) → ((x : Note) → P x → R x) → AddsBy R a b
by_other P R a b f back on = record { keeps = f.keeps; has = λ x r. f.has x (back x r); only = λ x h. elim (f.only x h) [ inl d ↦ inl d | inr p ↦ inr (on x p) ]; sizes = f.sizes }

-- ---- lists of notes

pub adds_none : (t : Targets) → Adds [] t t
adds_none t = record { by = by_same (Contains []) t (λ x c. none_in x c) }

pub adds_then : (xs ys : List Note) (a b c : Targets) → Adds xs a b → Adds ys b c → Adds (xs ++ ys) a c
adds_then xs ys a b c f g = record { by = by_join (Contains xs) (Contains ys) (Contains (xs ++ ys)) a b c f.by g.by (λ x h. Contains-append_cases xs ys x h) (λ x h. Contains-append_left xs ys x h) (λ x h. Contains-append_right xs ys x h) }

pub adds_same : (xs ys : List Note) (a b : Targets) → xs ≡ ys → Adds xs a b → Adds ys a b
adds_same xs ys a b e f = subst (λ l. Adds l a b) e f

-- one more of a list brings its notes along
pub adds_at : {X : Type 0} (f : X → List Note) (a b c : Targets) (xs : List X) (i : ℕ) (d : X) → Adds (flat_map f (take i xs)) a b → i < length xs → Adds (f (get_or xs i d)) b c → Adds (flat_map f (take (i + 1) xs)) a c
adds_at f a b c xs i d so_far lt step =
    let more : take (i + 1) xs ≡ take i xs ++ get_or xs i d ∷ [] = take_more xs i d lt in
    let text : flat_map f (take (i + 1) xs) ≡ flat_map f (take i xs) ++ f (get_or xs i d) = rw (more, flat_map-append) (ap (λ (ys : List Note). flat_map f (take i xs) ++ ys) (append-nil (f (get_or xs i d)))) in
    subst (λ l. Adds l a c) (sym text) (adds_then (flat_map f (take i xs)) (f (get_or xs i d)) a b c so_far step)

pub adds_on : {X : Type 0} (f : X → List Note) (a b c : Targets) (xs : List X) (i : ℕ) (x : X) → AtPlace xs i x → Adds (flat_map f (take i xs)) a b → Adds (f x) b c → Adds (flat_map f (take (i + 1) xs)) a c
adds_on f a b c xs i x at so_far step =
    let text : flat_map f (take (i + 1) xs) ≡ flat_map f (take i xs) ++ f x = rw (at.more, flat_map-append) (ap (λ (ys : List Note). flat_map f (take i xs) ++ ys) (append-nil (f x))) in
    subst (λ l. Adds l a c) (sym text) (adds_then (flat_map f (take i xs)) (f x) a b c so_far step)

pub adds_all : {X : Type 0} (f : X → List Note) (a b : Targets) (xs : List X) (i : ℕ) → Adds (flat_map f (take i xs)) a b → length xs ≤ i → Adds (flat_map f xs) a b
adds_all f a b xs i so_far le = subst (λ l. Adds (flat_map f l) a b) (take_all i xs le) so_far

-- ---- one note

module _ (a b : Targets) where
  pub leaves_one : (n : ℕ) → TurnsOn n a.leaves.items b.leaves.items → b.links ≡ a.links → b.entered ≡ a.entered → b.begun ≡ a.begun → Adds (Leaves n ∷ []) a b
  leaves_one n t links entered begun = record { by = record { keeps = keeps; has = λ x c. subst (IsMet b) (only_in (Leaves n) x c) t.on; only = only; sizes = record { leaves = t.long; entered = ap (λ v. length v.items) entered; begun = ap (λ v. length v.items) begun } } }
    where
      keeps : (x : Note) → IsMet a x → IsMet b x
      keeps (Links l) h = subst (λ v. Contains v.items l) (sym links) h
      keeps (Leaves m) h = t.keeps m h
      keeps (Enters m) h = ap (λ v. slice_index_or v.items m true) entered ∙ h
      keeps (Needs m) h = ap (λ v. slice_index_or v.items m true) begun ∙ h

      only : (x : Note) → IsNoted b x → IsNoted a x ⊎ Contains (Leaves n ∷ []) x
      only (Links l) h = inl (subst (λ v. Contains v.items l) links h)
      only (Leaves m) h = elim (t.only m h) [ inl e ↦ inl e | inr e ↦ inr (subst (λ k. Contains (Leaves n ∷ []) (Leaves k)) (sym e) (first_in (Leaves n) [])) ]
      only (Enters m) h = inl (sym (ap (λ v. slice_index_or v.items m false) entered) ∙ h)
      only (Needs m) h = inl (sym (ap (λ v. slice_index_or v.items m false) begun) ∙ h)

  pub enters_one : (n : ℕ) → TurnsOn n a.entered.items b.entered.items → b.links ≡ a.links → b.leaves ≡ a.leaves → b.begun ≡ a.begun → Adds (Enters n ∷ []) a b
  enters_one n t links leaves begun = record { by = record { keeps = keeps; has = λ x c. subst (IsMet b) (only_in (Enters n) x c) t.on; only = only; sizes = record { leaves = ap (λ v. length v.items) leaves; entered = t.long; begun = ap (λ v. length v.items) begun } } }
    where
      keeps : (x : Note) → IsMet a x → IsMet b x
      keeps (Links l) h = subst (λ v. Contains v.items l) (sym links) h
      keeps (Leaves m) h = ap (λ v. slice_index_or v.items m true) leaves ∙ h
      keeps (Enters m) h = t.keeps m h
      keeps (Needs m) h = ap (λ v. slice_index_or v.items m true) begun ∙ h

      only : (x : Note) → IsNoted b x → IsNoted a x ⊎ Contains (Enters n ∷ []) x
      only (Links l) h = inl (subst (λ v. Contains v.items l) links h)
      only (Leaves m) h = inl (sym (ap (λ v. slice_index_or v.items m false) leaves) ∙ h)
      only (Enters m) h = elim (t.only m h) [ inl e ↦ inl e | inr e ↦ inr (subst (λ k. Contains (Enters n ∷ []) (Enters k)) (sym e) (first_in (Enters n) [])) ]
      only (Needs m) h = inl (sym (ap (λ v. slice_index_or v.items m false) begun) ∙ h)

  pub needs_one : (n : ℕ) → TurnsOn n a.begun.items b.begun.items → b.links ≡ a.links → b.leaves ≡ a.leaves → b.entered ≡ a.entered → Adds (Needs n ∷ []) a b
  needs_one n t links leaves entered = record { by = record { keeps = keeps; has = λ x c. subst (IsMet b) (only_in (Needs n) x c) t.on; only = only; sizes = record { leaves = ap (λ v. length v.items) leaves; entered = ap (λ v. length v.items) entered; begun = t.long } } }
    where
      keeps : (x : Note) → IsMet a x → IsMet b x
      keeps (Links l) h = subst (λ v. Contains v.items l) (sym links) h
      keeps (Leaves m) h = ap (λ v. slice_index_or v.items m true) leaves ∙ h
      keeps (Enters m) h = ap (λ v. slice_index_or v.items m true) entered ∙ h
      keeps (Needs m) h = t.keeps m h

      only : (x : Note) → IsNoted b x → IsNoted a x ⊎ Contains (Needs n ∷ []) x
      only (Links l) h = inl (subst (λ v. Contains v.items l) links h)
      only (Leaves m) h = inl (sym (ap (λ v. slice_index_or v.items m false) leaves) ∙ h)
      only (Enters m) h = inl (sym (ap (λ v. slice_index_or v.items m false) entered) ∙ h)
      only (Needs m) h = elim (t.only m h) [ inl e ↦ inl e | inr e ↦ inr (subst (λ k. Contains (Needs n ∷ []) (Needs k)) (sym e) (first_in (Needs n) [])) ]

  pub links_one : (link : Link) → b.links.items ≡ a.links.items ++ link ∷ [] → b.leaves ≡ a.leaves → b.entered ≡ a.entered → b.begun ≡ a.begun → Adds (Links link ∷ []) a b
  links_one link e leaves entered begun = record { by = record { keeps = keeps; has = λ x c. subst (IsMet b) (only_in (Links link) x c) (subst (λ l. Contains l link) (sym e) (Contains-push a.links.items link)); only = only; sizes = record { leaves = ap (λ v. length v.items) leaves; entered = ap (λ v. length v.items) entered; begun = ap (λ v. length v.items) begun } } }
    where
      keeps : (x : Note) → IsMet a x → IsMet b x
      keeps (Links l) h = subst (λ k. Contains k l) (sym e) (Contains-append_left a.links.items (link ∷ []) l h)
      keeps (Leaves m) h = ap (λ v. slice_index_or v.items m true) leaves ∙ h
      keeps (Enters m) h = ap (λ v. slice_index_or v.items m true) entered ∙ h
      keeps (Needs m) h = ap (λ v. slice_index_or v.items m true) begun ∙ h

      only : (x : Note) → IsNoted b x → IsNoted a x ⊎ Contains (Links link ∷ []) x
      only (Links l) h = elim (Contains-push_cases a.links.items link l (subst (λ k. Contains k l) e h)) [ inl d ↦ inl d | inr s ↦ inr (subst (λ k. Contains (Links link ∷ []) (Links k)) s (first_in (Links link) [])) ]
      only (Leaves m) h = inl (sym (ap (λ v. slice_index_or v.items m false) leaves) ∙ h)
      only (Enters m) h = inl (sym (ap (λ v. slice_index_or v.items m false) entered) ∙ h)
      only (Needs m) h = inl (sym (ap (λ v. slice_index_or v.items m false) begun) ∙ h)
