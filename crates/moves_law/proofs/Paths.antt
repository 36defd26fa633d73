-- What is chosen for a position is a path to it, and there is one to each position that a walk reaches.
use Rattle.std.proofs.Common.{◌≡◌, ◌⊎◌, inl, inr, ℕ, zero, suc, ◌<◌, Bool, true, false, true≢false, nat_eq, List, [], ◌∷◌, ◌++◌, length, Option, Some, None, Contains, refl, sym, subst, append_assoc, append-nil, arith}
use Rattle.std.specs.List.{list_any}
use Rattle.std.proofs.lemmas.Bool.{cases_order}
use Rattle.insn_set.specs.declared.form.Insn.{Insn}
use Rattle.program_model.specs.declared.body.Body.{Body}
use Rattle.flow_cfg.specs.Walks.{successors_of}
use Rattle.body_graph.specs.Walks.{insn_at, onward, caught, Walk, IsReached}
use Rattle.body_graph.proofs.Links.{step_insn}
use Rattle.body_graph.proofs.Members.{get_inside}
use Rattle.moves_law.specs.Histories.{Step, IsPath}
use Rattle.moves_law.specs.Paths.{leaving, one_step, joined, or_else, between, path_to}
use Rattle.moves_law.proofs.Lists.{some_same, no_some, is_in, in_it}

module _ (b : Body) where
  -- ---- what is chosen leads there

  -- behind each path to the first position the steps are a path to the second one
  abbrev Leads : ℕ → List Step → ℕ → Type 0
  Leads m ss n = (old : List Step) → IsPath b old m → IsPath b (ss ++ old) n

  left : (m n : ℕ) (f : Insn) → insn_at b m ≡ Some f → (u v : Bool) → list_any (nat_eq n) (onward f m) ≡ u → list_any (nat_eq n) (caught b f m) ≡ v
      → (ss : List Step) → leaving m u v ≡ Some ss → Leads m ss n
  left m n f h true v i j ss e = λ old p.
      subst (λ l. IsPath b (l ++ old) n) (some_same (record { position = m; thrown = false } ∷ []) ss e) (IsPath.On old m n f p h (in_it n (onward f m) i))
  left m n f h false true i j ss e = λ old p.
      subst (λ l. IsPath b (l ++ old) n) (some_same (record { position = m; thrown = true } ∷ []) ss e) (IsPath.Thrown old m n f p h (in_it n (caught b f m) j))
  left m n f h false false i j ss e = no_some ss e

  stepped : (m n : ℕ) (o : Option Insn) → insn_at b m ≡ o → (ss : List Step) → one_step b m n o ≡ Some ss → Leads m ss n
  stepped m n None h ss e = no_some ss e
  stepped m n (Some f) h ss e = left m n f h (list_any (nat_eq n) (onward f m)) (list_any (nat_eq n) (caught b f m)) refl refl ss e

  leads : (k m n : ℕ) (ss : List Step) → between b k m n ≡ Some ss → Leads m ss n
  leads zero m n ss e = stepped m n (insn_at b m) refl ss e
  leads (suc k) m n ss e = by (between b k m n) (between b k m k) (between b k k n) (leads k m n) (leads k m k) (leads k k n) e
    where
      by : (o p q : Option (List Step)) → ((l : List Step) → o ≡ Some l → Leads m l n) → ((l : List Step) → p ≡ Some l → Leads m l k) → ((l : List Step) → q ≡ Some l → Leads k l n)
          → or_else o (joined p q) ≡ Some ss → Leads m ss n
      by (Some xs) p q f g h e = f ss e
      by None (Some xs) (Some ys) f g h e = λ old path.
          subst (λ l. IsPath b (l ++ old) n) (some_same (ys ++ xs) ss e) (subst (λ l. IsPath b l n) (sym (append_assoc ys xs old)) (h ys refl (xs ++ old) (g xs refl old path)))
      by None (Some xs) None f g h e = no_some ss e
      by None None q f g h e = no_some ss e

  pub is_path : (n : ℕ) (ss : List Step) → path_to b n ≡ Some ss → IsPath b ss n
  is_path zero ss e = subst (λ l. IsPath b l 0) (some_same [] ss e) IsPath.Begins
  is_path (suc n) ss e = subst (λ l. IsPath b l (suc n)) (append-nil ss) (leads (length b.insns) 0 (suc n) ss e [] IsPath.Begins)

  -- ---- there is one

  abbrev Has : Option (List Step) → Type 0
  Has None = ⊥
  Has (Some ss) = Unit {0}

  abbrev Joins : ℕ → ℕ → ℕ → Type 0
  Joins k m n = Has (between b k m n)

  sooner : (o p : Option (List Step)) → Has o → Has (or_else o p)
  sooner (Some xs) p h = tt
  sooner None p h = absurd h

  later : (o p q : Option (List Step)) → Has p → Has q → Has (or_else o (joined p q))
  later (Some xs) p q h i = tt
  later None (Some xs) (Some ys) h i = tt
  later None (Some xs) None h i = absurd i
  later None None q h i = absurd h

  cases : (o p q : Option (List Step)) → Has (or_else o (joined p q)) → Has o ⊎ (Has p × Has q)
  cases (Some xs) p q h = inl tt
  cases None (Some xs) (Some ys) h = inr (tt, tt)
  cases None (Some xs) None h = absurd h
  cases None None q h = absurd h

  parts : (k m n : ℕ) → Joins (suc k) m n → Joins k m n ⊎ (Joins k m k × Joins k k n)
  parts k m n h = cases (between b k m n) (between b k m k) (between b k k n) h

  over : (k m n : ℕ) → Joins k m k → Joins k k n → Joins (suc k) m n
  over k m n h i = later (between b k m n) (between b k m k) (between b k k n) h i

  still : (k m n : ℕ) → Joins k m n → Joins (suc k) m n
  still k m n h = sooner (between b k m n) (joined (between b k m k) (between b k k n)) h

  last_or_less : (j k : ℕ) → j < suc k → (j ≡ k) ⊎ (j < k)
  last_or_less j k lt = elim (cases_order j k) [ inl e ↦ inl e | inr o ↦ elim o [ inl l ↦ inr l | inr g ↦ absurd (omega (arith, lt, g)) ] ]

  to_last : (k m : ℕ) → Joins (suc k) m k → Joins k m k
  to_last k m h = elim (parts k m k h) [ inl a ↦ a | inr a ↦ a.0 ]

  from_last : (k n : ℕ) → Joins (suc k) k n → Joins k k n
  from_last k n h = elim (parts k k n h) [ inl a ↦ a | inr a ↦ a.1 ]

  -- by way of a position below the bound
  through : (k m j n : ℕ) → j < k → Joins k m j → Joins k j n → Joins k m n
  through zero m j n lt x y = absurd (omega (arith, lt))
  through (suc k) m j n lt x y = by (last_or_less j k lt) (λ m j n l h i. through k m j n l h i)
    where
      by : (j ≡ k) ⊎ (j < k) → ((m j n : ℕ) → j < k → Joins k m j → Joins k j n → Joins k m n) → Joins (suc k) m n
      by (inl e) again = over k m n (to_last k m (subst (λ i. Joins (suc k) m i) e x)) (from_last k n (subst (λ i. Joins (suc k) i n) e y))
      by (inr l) again = elim (parts k m j x) [
        | inl a ↦ elim (parts k j n y) [
          | inl c ↦ still k m n (again m j n l a c)
          | inr c ↦ over k m n (again m j k l a c.0) c.1
        ]
        | inr a ↦ elim (parts k j n y) [
          | inl c ↦ over k m n a.0 (again k j n l a.1 c)
          | inr c ↦ over k m n a.0 c.1
        ]
      ]

  up : (k m n : ℕ) → Joins 0 m n → Joins k m n
  up zero m n h = h
  up (suc k) m n h = still k m n (up k m n h)

  onto : (m : ℕ) (v : Bool) → Has (leaving m true v)
  onto m v = tt

  off : (m : ℕ) (u v : Bool) → v ≡ true → Has (leaving m u v)
  off m true v e = tt
  off m false true e = tt
  off m false false e = absurd (true≢false (sym e))

  step_there : (m n : ℕ) (f : Insn) → insn_at b m ≡ Some f → Contains (onward f m) n ⊎ Contains (caught b f m) n → Joins 0 m n
  step_there m n f e c = subst (λ o. Has (one_step b m n o)) (sym e) (by c)
    where
      by : Contains (onward f m) n ⊎ Contains (caught b f m) n → Has (one_step b m n (Some f))
      by (inl d) = subst (λ u. Has (leaving m u (list_any (nat_eq n) (caught b f m)))) (sym (is_in n (onward f m) d)) (onto m (list_any (nat_eq n) (caught b f m)))
      by (inr d) = off m (list_any (nat_eq n) (onward f m)) (list_any (nat_eq n) (caught b f m)) (is_in n (caught b f m) d)

  next : (m n : ℕ) → Has (path_to b m) → Contains (successors_of b m) n → Has (path_to b n)
  next m zero h c = tt
  next m (suc n) h c = let s = step_insn b m (suc n) c in by m h (get_inside b.insns m s.0 s.1) (step_there m (suc n) s.0 s.1 s.2)
    where
      by : (m : ℕ) → Has (path_to b m) → m < length b.insns → Joins 0 m (suc n) → Joins (length b.insns) 0 (suc n)
      by zero h lt j = up (length b.insns) 0 (suc n) j
      by (suc m) h lt j = through (length b.insns) 0 (suc m) (suc n) lt h (up (length b.insns) (suc m) (suc n) j)

  walked : (m n : ℕ) → Has (path_to b m) → Walk (successors_of b) m n → Has (path_to b n)
  walked m _ h (Walk.Stays _) = h
  walked m n h (Walk.Goes _ j _ c w) = walked j n (next m j h c) w

  pub has_path : (n : ℕ) → IsReached b n → (ss : List Step) × (path_to b n ≡ Some ss)
  has_path n w = by (path_to b n) (walked 0 n tt w)
    where
      by : (o : Option (List Step)) → Has o → (ss : List Step) × (o ≡ Some ss)
      by (Some ss) h = (ss, refl)
      by None h = absurd h
