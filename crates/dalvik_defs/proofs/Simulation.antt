-- The law of simulation. A relation between states of two programs gives that they show the same where it holds of the
-- two opening states, and where from related states some steps of the one, at least one, show what some steps of the
-- other show, and lead to related states again; and the same the other way round.
use Rattle.std.proofs.Common.{◌≡◌, ℕ, zero, suc, List, [], ◌++◌, refl, sym, ap, ◌∙◌, append_assoc, append-nil}
use Rattle.dalvik_defs.specs.Face.{Bodies, bodies_of}
use Rattle.dalvik_defs.specs.Outer.{Outer}
use Rattle.dalvik_defs.specs.State.{State, opening}
use Rattle.dalvik_defs.specs.Happens.{Setting}
use Rattle.dalvik_defs.specs.Step.{step, events_of, after, shows_from, setting_of}
use Rattle.dalvik_defs.specs.Shown.{Fit, IsPrefixOf, SameShown}
use Rattle.dalvik_defs.specs.declared.script.Move.{Move}
use Rattle.dalvik_defs.specs.declared.program.NamedProgram.{NamedProgram}
use Rattle.dalvik_defs.specs.declared.tables.Framework.{Framework}
use Rattle.dalvik_defs.specs.declared.tables.Floats.{Floats}
use Rattle.dalvik_defs.proofs.Same.{prefix_refl, prefix_on, prefix_behind}

-- so many steps and then so many
abbrev pub joined : ℕ → ℕ → ℕ
joined zero m = m
joined (suc n) m = suc (joined n m)

module _ (s : Setting) (find : Bodies) where
  -- n steps and then m
  pub run_on : (n m : ℕ) (t : State)
      → (j : ℕ) × ((after s find t j ≡ after s find (after s find t n) m) × (shows_from s find t j ≡ shows_from s find t n ++ shows_from s find (after s find t n) m))
  run_on zero m t = (m, (refl, refl))
  run_on (suc n) m t =
      let r = run_on n m (step s find t).0 in
      (suc r.0, (r.1.0, ap (λ l. events_of (step s find t).1 ++ l) r.1.1 ∙ sym (append_assoc (events_of (step s find t).1) (shows_from s find (step s find t).0 n) (shows_from s find (after s find (step s find t).0 n) m))))

  pub after_joined : (n m : ℕ) (t : State) → after s find t (joined n m) ≡ after s find (after s find t n) m
  after_joined zero m t = refl
  after_joined (suc n) m t = after_joined n m (step s find t).0

  pub shows_joined : (n m : ℕ) (t : State) → shows_from s find t (joined n m) ≡ shows_from s find t n ++ shows_from s find (after s find t n) m
  shows_joined zero m t = refl
  shows_joined (suc n) m t = ap (λ l. events_of (step s find t).1 ++ l) (shows_joined n m (step s find t).0)
      ∙ sym (append_assoc (events_of (step s find t).1) (shows_from s find (step s find t).0 n) (shows_from s find (after s find (step s find t).0 n) m))

  -- n steps and then one
  pub after_suc : (n : ℕ) (t : State) → after s find t (suc n) ≡ (step s find (after s find t n)).0
  after_suc zero t = refl
  after_suc (suc n) t = after_suc n (step s find t).0

  pub shows_suc : (n : ℕ) (t : State) → shows_from s find t (suc n) ≡ shows_from s find t n ++ events_of (step s find (after s find t n)).1
  shows_suc zero t = append-nil (events_of (step s find t).1)
  shows_suc (suc n) t = ap (λ l. events_of (step s find t).1 ++ l) (shows_suc n (step s find t).0)
      ∙ sym (append_assoc (events_of (step s find t).1) (shows_from s find (step s find t).0 n) (events_of (step s find (after s find (step s find t).0 n)).1))

  -- what every step keeps, any number of steps keeps
  pub kept_after : (I : State → Type 0) → ((t : State) → I t → I (step s find t).0) → (n : ℕ) (t : State) → I t → I (after s find t n)
  kept_after I keeps zero t i = i
  kept_after I keeps (suc n) t i = kept_after I keeps n (step s find t).0 (keeps t i)

  one_more : (n : ℕ) (t : State) → IsPrefixOf (shows_from s find t n) (shows_from s find t (suc n))
  one_more zero t = (events_of (step s find t).1 ++ [], refl)
  one_more (suc n) t = prefix_behind (events_of (step s find t).1) (shows_from s find (step s find t).0 n) (shows_from s find (step s find t).0 (suc n)) (one_more n (step s find t).0)

  -- what n steps show begins what k and then n steps show
  longer : (k n : ℕ) (t : State) → IsPrefixOf (shows_from s find t n) (shows_from s find t k ++ shows_from s find (after s find t k) n)
  longer zero n t = prefix_refl (shows_from s find t n)
  longer (suc k) n t =
      let e = events_of (step s find t).1 in
      let u = (step s find t).0 in
      let r = prefix_behind e (shows_from s find u n) (shows_from s find u k ++ shows_from s find (after s find u k) n) (longer k n u) in
      prefix_on (shows_from s find t n) (shows_from s find t (suc n)) ((e ++ shows_from s find u k) ++ shows_from s find (after s find u k) n) (one_more n t)
      (r.0, ap (λ l. l) r.1 ∙ sym (append_assoc e (shows_from s find u k) (shows_from s find (after s find u k) n)))

-- Some steps of the one, at least one, are some steps of the other with the same events, and lead to related states.
pub record Follows (s : Setting) (find : Bodies) (s' : Setting) (other : Bodies) (R : State → State → Type 0) : Type 0 where
  pub on : (t u : State) → R t u → (k : ℕ) × ((j : ℕ) × ((shows_from s' other u j ≡ shows_from s find t (suc k)) × R (after s find t (suc k)) (after s' other u j)))

-- all that the one shows from a state the other shows from another
pub record Shows (s : Setting) (find : Bodies) (s' : Setting) (other : Bodies) (t u : State) : Type 0 where
  pub within : (n : ℕ) → (m : ℕ) × IsPrefixOf (shows_from s find t n) (shows_from s' other u m)

module _ (s : Setting) (find : Bodies) (s' : Setting) (other : Bodies) (R : State → State → Type 0) (f : Follows s find s' other R) where
  follows_within : (n : ℕ) (t u : State) → R t u → (m : ℕ) × IsPrefixOf (shows_from s find t n) (shows_from s' other u m)
  follows_within zero t u h = (0, ([], refl))
  follows_within (suc n) t u h =
      let b = f.on t u h in
      let r = follows_within n (after s find t (suc b.0)) (after s' other u b.1.0) b.1.1.1 in
      let j = run_on s' other b.1.0 r.0 u in
      let e = events_of (step s find t).1 in
      let v = (step s find t).0 in
      let x = longer s find b.0 n v in
      let y = prefix_behind e (shows_from s find v n) (shows_from s find v b.0 ++ shows_from s find (after s find v b.0) n) x in
      let z = prefix_behind (e ++ shows_from s find v b.0) (shows_from s find (after s find v b.0) n) (shows_from s' other (after s' other u b.1.0) r.0) r.1 in (
        j.0,
        prefix_on (shows_from s find t (suc n)) ((e ++ shows_from s find v b.0) ++ shows_from s find (after s find v b.0) n) (shows_from s' other u j.0)
            (y.0, y.1 ∙ sym (append_assoc e (shows_from s find v b.0) (shows_from s find (after s find v b.0) n)))
            (z.0, z.1 ∙ ap (λ l. l ++ shows_from s' other (after s' other u b.1.0) r.0) (sym b.1.1.0) ∙ sym j.1.1),
      )

  pub follows_shows : (t u : State) → R t u → Shows s find s' other t u
  follows_shows t u h = record { within = λ n. follows_within n t u h }

pub shows_on : (s s' s'' : Setting) (find other third : Bodies) (t u v : State) → Shows s find s' other t u → Shows s' other s'' third u v → Shows s find s'' third t v
shows_on s s' s'' find other third t u v a b = record { within = λ n. let m = a.within n in let k = b.within m.0 in (k.0, prefix_on _ _ _ m.1 k.1) }

-- programs whose runs show the same under every fit framework and script
pub same_by_runs : (p q : NamedProgram) (o : Outer)
    → ((f : Framework) (a : Floats) (script : List Move) → Fit p o f script → Shows (setting_of p o f a) (bodies_of p) (setting_of q o f a) (bodies_of q) (opening script) (opening script))
    → ((f : Framework) (a : Floats) (script : List Move) → Fit p o f script → Shows (setting_of q o f a) (bodies_of q) (setting_of p o f a) (bodies_of p) (opening script) (opening script))
    → SameShown p q o
same_by_runs p q o there back = record {
  there = λ f a script n h. (there f a script h).within n;
  back = λ f a script n h. (back f a script h).within n;
}

-- the law of simulation
pub simulation : (p q : NamedProgram) (o : Outer) (R S : Framework → Floats → List Move → State → State → Type 0)
    → ((f : Framework) (a : Floats) (script : List Move) → Fit p o f script → Follows (setting_of p o f a) (bodies_of p) (setting_of q o f a) (bodies_of q) (R f a script))
    → ((f : Framework) (a : Floats) (script : List Move) → Fit p o f script → Follows (setting_of q o f a) (bodies_of q) (setting_of p o f a) (bodies_of p) (S f a script))
    → ((f : Framework) (a : Floats) (script : List Move) → Fit p o f script → R f a script (opening script) (opening script) × S f a script (opening script) (opening script))
    → SameShown p q o
simulation p q o R S there back start = same_by_runs p q o
    (λ f a script h. follows_shows _ _ _ _ (R f a script) (there f a script h) (opening script) (opening script) (start f a script h).0)
    (λ f a script h. follows_shows _ _ _ _ (S f a script) (back f a script h) (opening script) (opening script) (start f a script h).1)
