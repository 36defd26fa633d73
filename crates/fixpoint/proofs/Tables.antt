-- How the table of a flow rises.
use Rattle.std.proofs.Common.{◌≡◌, ℕ, ◌+◌, ◌<◌, ◌≢◌, Bool, true, false, List, [], ◌∷◌, ◌++◌, length, replicate, refl, sym, ap, ◌∙◌, subst, ◌⊎◌, inl, inr, arith, get_or-set_other, get_or-set_same}
use Rattle.std.specs.Prelude.{All, Contains, slice_index_or}
use Rattle.std.proofs.Math.ListN.{set, length-set}
use Rattle.std.proofs.lemmas.Bool.{cases_eq, cases_lt}
use Rattle.std.proofs.lemmas.List.Elements.{All-contains}
use Rattle.std.proofs.lemmas.List.Sums.{sum_by-set}
use Rattle.std.proofs.lemmas.List.{get_or_append_left, get_or-replicate, length-replicate}
use Rattle.std.proofs.Math.Seq.{get_or-append_seam}
use Rattle.fixpoint.specs.Graph.{Graph, IsInductive, FlowLaws}
use Rattle.fixpoint.specs.Rising.{AreRows, Waits, Done, IsRaised, Rises, Follows, Keeps}

module _ {S : Type 0} (below : S → S → Type 0) (exact : Bool) (stays : ℕ → S → Type 0) (d : S) (g : Graph S)
    (same : (x : S) → below x x) (trans : (x y z : S) → below x y → below y z → below x z) where
  pub rises_same : (t : List S) (w : List Bool) → Rises below exact stays d g t w t w
  rises_same t w = record {
    long = refl;
    flags = refl;
    up = λ n. same _;
    waits = λ n. inl refl;
    kept = λ n h. h;
    staying = λ h. h;
    least = λ x s i h. h;
  }

  pub rises_on : (t t' t'' : List S) (w w' w'' : List Bool) → Rises below exact stays d g t w t' w' → Rises below exact stays d g t' w' t'' w'' → Rises below exact stays d g t w t'' w''
  rises_on t t' t'' w w' w'' a b = record {
    long = b.long ∙ a.long;
    flags = b.flags ∙ a.flags;
    up = λ n. trans _ _ _ (a.up n) (b.up n);
    waits = λ n. elim (b.waits n) [ inr c ↦ inr c | inl e ↦ elim (a.waits n) [ inr c ↦ inr (b.kept n c) | inl f ↦ inl (e ∙ f) ] ];
    kept = λ n h. b.kept n (a.kept n h);
    staying = λ h. b.staying (a.staying h);
    least = λ x s i h. b.least x s i (a.least x s i h);
  }

  pub done_on : (t t' : List S) (w w' : List Bool) (e : ℕ) → Rises below exact stays d g t w t' w' → Done below d g t w e → Done below d g t' w' e
  done_on t t' w w' e r h = elim h [
    | inl c ↦ inl (r.kept _ c)
    | inr b ↦ elim (r.waits (g.source e)) [
      | inr c ↦ inl c
      | inl q ↦ inr (subst (λ s. below (g.moved e s) (slice_index_or t' (g.target e) d)) (sym q) (trans _ _ _ b (r.up (g.target e))))
    ]
  ]

  -- the target of an edge is raised and waits
  module _ (rank : S → ℕ) (joined widened : S → S → S) (laws : FlowLaws below exact d joined widened stays g) (join_least : exact ≡ true → (x y z : S) → below x z → below y z → below (joined x y) z)
      (widens : Bool) (t : List S) (w : List Bool) (e : ℕ) (m x : S) (lt : e < g.edges) (long : length t ≡ g.nodes) (flags : length w ≡ g.nodes)
      (is_moved : m ≡ g.moved e (slice_index_or t (g.source e) d)) (raised : IsRaised below rank exact joined widened widens (slice_index_or t (g.target e) d) m x) where
    to_lt : g.target e < length t
    to_lt = let k = (laws.ends e lt).1 in omega arith

    flag_lt : g.target e < length w
    flag_lt = let k = (laws.ends e lt).1 in omega arith

    here : slice_index_or (set t (g.target e) x) (g.target e) d ≡ x
    here = get_or-set_same t (g.target e) x d to_lt

    marked : Waits (set w (g.target e) true) (g.target e)
    marked = get_or-set_same w (g.target e) true false flag_lt

    kept_set : (n : ℕ) → Waits w n → Waits (set w (g.target e) true) n
    kept_set n h = elim (cases_eq n (g.target e)) [
      | inl k ↦ subst (Waits (set w (g.target e) true)) (sym k) marked
      | inr k ↦ get_or-set_other w (g.target e) n true false k ∙ h
    ]

    at : (P : ℕ → S → Type 0) → P (g.target e) x → ((n : ℕ) → n ≢ g.target e → P n (slice_index_or t n d)) → (n : ℕ) → P n (slice_index_or (set t (g.target e) x) n d)
    at P p q n = elim (cases_eq n (g.target e)) [
      | inl k ↦ subst (λ i. P i (slice_index_or (set t (g.target e) x) i d)) (sym k) (subst (P (g.target e)) (sym here) p)
      | inr k ↦ subst (P n) (sym (get_or-set_other t (g.target e) n x d k)) (q n k)
    ]

    raised_stays : ((n : ℕ) → n < g.nodes → stays n (slice_index_or t n d)) → stays (g.target e) x
    raised_stays h =
        let both = laws.edge_join e (slice_index_or t (g.target e) d) (slice_index_or t (g.source e) d) lt (h (g.target e) (laws.ends e lt).1) (h (g.source e) (laws.ends e lt).0) in
        elim raised.made [
          | inl q ↦ subst (stays (g.target e)) (ap (joined (slice_index_or t (g.target e) d)) (sym is_moved) ∙ sym q) both.0
          | inr q ↦ subst (stays (g.target e)) (ap (widened (slice_index_or t (g.target e) d)) (sym is_moved) ∙ sym q) both.1
        ]

    rises_set : Rises below exact stays d g t w (set t (g.target e) x) (set w (g.target e) true)
    rises_set = record {
      long = length-set t (g.target e) x;
      flags = length-set w (g.target e) true;
      up = at (λ n s. below (slice_index_or t n d) s) raised.over.first (λ n k. same _);
      waits = at (λ n s. (s ≡ slice_index_or t n d) ⊎ Waits (set w (g.target e) true) n) (inr marked) (λ n k. inl refl);
      kept = kept_set;
      staying = λ h n. at (λ n s. n < g.nodes → stays n s) (λ k. raised_stays h) (λ n k l. h n l) n;
      least = λ q s i h n. at (λ n v. n < g.nodes → below v (s n))
          (λ k. trans _ _ _ (raised.tight q) (join_least q _ _ _ (h (g.target e) k)
          (subst (λ v. below v (s (g.target e))) (sym is_moved) (trans _ _ _ (laws.grows q e _ _ lt (h (g.source e) (laws.ends e lt).0)) (i.edges e lt)))))
          (λ n k l. h n l) n;
    }

    done_set : Done below d g (set t (g.target e) x) (set w (g.target e) true) e
    done_set = elim (cases_eq (g.source e) (g.target e)) [
      | inl k ↦ inl (subst (Waits (set w (g.target e) true)) (sym k) marked)
      | inr k ↦ inr (subst (λ s. below (g.moved e s) (slice_index_or (set t (g.target e) x) (g.target e) d)) (sym (get_or-set_other t (g.target e) (g.source e) x d k))
          (subst (below (g.moved e (slice_index_or t (g.source e) d))) (sym here) (subst (λ v. below v x) is_moved raised.over.second)))
    ]

    follows_set : (below m (slice_index_or t (g.target e) d) → ⊥) → Follows below rank exact stays d g widens e t w (set t (g.target e) x) (set w (g.target e) true) true
    follows_set above = record {
      rises = rises_set;
      done = done_set;
      same = λ q. absurd (cc);
      marked = λ q. refl;
      falls = λ q k.
          let eq = sum_by-set rank t (g.target e) x d to_lt in
          let less : rank x < rank (slice_index_or t (g.target e) d) = elim (raised.falls k) [ inr l ↦ l | inl b ↦ absurd (above (trans _ _ _ raised.over.second b)) ] in
          omega (arith, eq, less);
    }

  pub followed : (rank : S → ℕ) (joined widened : S → S → S) → FlowLaws below exact d joined widened stays g → (exact ≡ true → (x y z : S) → below x z → below y z → below (joined x y) z)
      → (widens : Bool) (t : List S) (w : List Bool) (e i j : ℕ) (from old old' m x : S) → e < g.edges → length t ≡ g.nodes → length w ≡ g.nodes → i ≡ g.target e → j ≡ g.source e
      → from ≡ slice_index_or t j d → m ≡ g.moved e from → old ≡ slice_index_or t i d → old' ≡ slice_index_or t i d
      → IsRaised below rank exact joined widened widens old' m x → (below m old → ⊥) → Follows below rank exact stays d g widens e t w (set t i x) (set w i true) true
  followed rank joined widened laws jl widens t w e i j from old old' m x lt long flags qi qj qf qm qo qo' r not_below =
      let em : m ≡ g.moved e (slice_index_or t (g.source e) d) = qm ∙ ap (g.moved e) (qf ∙ ap (λ k. slice_index_or t k d) qj) in
      let eo : old ≡ slice_index_or t (g.target e) d = qo ∙ ap (λ k. slice_index_or t k d) qi in
      let eo' : old' ≡ slice_index_or t (g.target e) d = qo' ∙ ap (λ k. slice_index_or t k d) qi in
      let r' : IsRaised below rank exact joined widened widens (slice_index_or t (g.target e) d) m x = subst (λ o. IsRaised below rank exact joined widened widens o m x) eo' r in
      let not' : below m (slice_index_or t (g.target e) d) → ⊥ = subst (λ o. below m o → ⊥) eo not_below in
      subst (λ k. Follows below rank exact stays d g widens e t w (set t k x) (set w k true) true) (sym qi) (follows_set rank joined widened laws jl widens t w e m x lt long flags em r' not')

  pub keeps_first : (joined widened : S → S → S) → FlowLaws below exact d joined widened stays g → (t : List S) (w : List Bool) (nodes : ℕ) → nodes ≡ g.nodes → length t ≡ nodes → ((n : ℕ) → n < nodes → slice_index_or t n d ≡ g.begun n) → w ≡ replicate nodes true
      → Keeps below exact stays d g t w
  keeps_first joined widened laws t w nodes q long is all = record {
    long = long ∙ q;
    flags = ap length all ∙ length-replicate nodes true ∙ q;
    entries = λ n lt. subst (below (g.begun n)) (sym (begun n lt)) (same _);
    done = λ e lt. inl (ap (λ l. slice_index_or l (g.source e) false) all ∙ get_or-replicate nodes (g.source e) true false (subst (λ k. g.source e < k) (sym q) (laws.ends e lt).0));
    staying = λ n lt. subst (stays n) (sym (begun n lt)) (laws.entry_stays n lt);
    least = λ x s i n lt. subst (λ v. below v (s n)) (sym (begun n lt)) (i.entries n lt);
  }
    where
      begun : (n : ℕ) → n < g.nodes → slice_index_or t n d ≡ g.begun n
      begun n lt = is n (subst (λ k. n < k) (sym q) lt)

  -- a node is visited: it waits no more, and its edges are followed
  pub keeps_on : (rows : List (List ℕ)) (t t' : List S) (w w' : List Bool) (x : ℕ) → AreRows g g.edges rows → Keeps below exact stays d g t w → Rises below exact stays d g t (set w x false) t' w' → All (Done below d g t' w') (slice_index_or rows x []) → Keeps below exact stays d g t' w'
  keeps_on rows t t' w w' x a k r h = record {
    long = r.long ∙ k.long;
    flags = r.flags ∙ length-set w x false ∙ k.flags;
    entries = λ n lt. trans _ _ _ (k.entries n lt) (r.up n);
    done = λ e lt. elim (k.done e lt) [
      | inr b ↦ done_on t t' (set w x false) w' e r (inr b)
      | inl c ↦ elim (cases_eq (g.source e) x) [
        | inl s ↦ All-contains (Done below d g t' w') (slice_index_or rows x []) e h (subst (λ n. Contains (slice_index_or rows n []) e) s (a.all e lt))
        | inr s ↦ inl (r.kept _ (get_or-set_other w x (g.source e) false false s ∙ c))
      ]
    ];
    staying = r.staying k.staying;
    least = λ q s i. r.least q s i (k.least q s i);
  }

  pub inductive_at_end : ((e : ℕ) → e < g.edges → g.source e < g.nodes) → (t : List S) (w : List Bool) → ((n : ℕ) → n < g.nodes → Waits w n → ⊥) → Keeps below exact stays d g t w → IsInductive below g (λ n. slice_index_or t n d)
  inductive_at_end ends t w none k = record {
    entries = k.entries;
    edges = λ e lt. elim (k.done e lt) [ inr b ↦ b | inl c ↦ absurd (none (g.source e) (ends e lt) c) ];
  }

-- one more entry
pub pushed_is : {S : Type 0} (f : ℕ → S) (d : S) (n : ℕ) (t t' : List S) (x : S) → length t ≡ n → ((k : ℕ) → k < n → slice_index_or t k d ≡ f k) → x ≡ f n → t' ≡ t ++ x ∷ [] → (k : ℕ) → k < n + 1 → slice_index_or t' k d ≡ f k
pushed_is f d n t t' x long is new q k lt = elim (cases_lt k n) [
  | inl b ↦ ap (λ l. slice_index_or l k d) q ∙ get_or_append_left t (x ∷ []) d k (omega arith) ∙ is k b
  | inr b ↦ let e : n ≡ k = omega arith in let at : length t ≡ k = omega arith in ap (λ l. slice_index_or l k d) q ∙ subst (λ i. slice_index_or (t ++ x ∷ []) i d ≡ x) at (get_or-append_seam t x [] d) ∙ new ∙ ap f e
]
