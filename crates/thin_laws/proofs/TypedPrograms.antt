-- A squeezed program is typed, and shows the same.
use Rattle.std.proofs.Common.{◌≡◌, ◌⊎◌, inl, inr, ℕ, Bool, true, false, true≢false, List, [], ◌++◌, Option, Some, None, refl, sym, ap, subst, arith}
use Rattle.std.specs.Prelude.{Contains}
use Rattle.std.proofs.lemmas.List.Elements.{Contains-append_cases}
use Rattle.lemmas.proofs.Options.{some_same}
use Rattle.dalvik_defs.specs.Outer.{Outer}
use Rattle.dalvik_defs.specs.Shown.{SameShown}
use Rattle.dalvik_defs.specs.Silence.{key_in}
use Rattle.dalvik_defs.specs.declared.names.MethodKey.{MethodKey}
use Rattle.dalvik_defs.specs.declared.forms.Form.{Form}
use Rattle.dalvik_defs.specs.declared.program.NamedBody.{NamedBody}
use Rattle.dalvik_defs.specs.declared.program.NamedMethod.{NamedMethod}
use Rattle.dalvik_defs.specs.declared.program.NamedClass.{NamedClass}
use Rattle.dalvik_defs.specs.declared.program.NamedProgram.{NamedProgram}
use Rattle.pass_defs.specs.Thinned.{Fate, thinned}
use Rattle.pass_defs.specs.Typed.{Table, IsTyping, IsTyped}
use Rattle.pass_defs.specs.Walks.{form_at, onward, caught, successors, Walk, Stays as Arrives, Goes as Steps}
use Rattle.program_laws.specs.Others.{OtherBodies}
use Rattle.program_laws.proofs.Named.{others_weaker}
use Rattle.program_laws.proofs.Typed.{others_typed}
use Rattle.thin_laws.specs.Squeezing.{IsSqueezing}
use Rattle.thin_laws.specs.Thins.{Thins, NoCode, Same, Thinned}
use Rattle.thin_laws.proofs.Programs.{squeezed_shown}
use Rattle.thin_laws.specs.Squeezed.{IsTransitive, SqueezesMarked, Squeezes, squeezed_table}
use Rattle.thin_laws.proofs.SqueezedTypes.{squeezed_typing}

none_in : {A : Type 0} (m : ℕ) → Contains [] m → A
none_in m (k, l, e) = let f : ⊥ = omega (arith, l) in absurd f

-- ---- what walks reach is marked

module _ (marks : ℕ → Bool) (fs : List Fate) (b : NamedBody) (h : SqueezesMarked marks fs b) where
  one_step : (n m : ℕ) → marks n ≡ true → (o : Option Form) → form_at b n ≡ o → Contains (elim o as (λ o. List ℕ) [ Some f ↦ onward f n ++ caught b f n | None ↦ [] ]) m → marks m ≡ true
  one_step n m e None d i = none_in m i
  one_step n m e (Some f) d i = by (Contains-append_cases (onward f n) (caught b f n) m i)
    where
      by : Contains (onward f n) m ⊎ Contains (caught b f n) m → marks m ≡ true
      by (inl j) = h.onward n m f e d j
      by (inr j) = h.caught n m f e d j

  walked : (n m : ℕ) → Walk (successors b) n m → marks n ≡ true → marks m ≡ true
  walked n _ (Arrives _) e = e
  walked n m (Steps _ k _ i w) e = walked k m w (one_step n k e (form_at b n) refl i)

  squeezing : IsSqueezing fs b
  squeezing = record { long = h.long; within = λ n i. h.within n (walked 0 n i h.entry); skipped = λ n x f i e k s. h.skipped n x f (walked 0 n i h.entry) e k s }

weaker : (k : MethodKey) (a b : Option NamedBody) → Thins Squeezes k a b → Thins (λ k fs b. IsSqueezing fs b) k a b
weaker k _ _ NoCode = NoCode
weaker k _ _ (Same b) = Same b
weaker k _ _ (Thinned fs b h) = Thinned fs b (squeezing h.0 fs b h.1)

pub marked_shown : (p q : NamedProgram) (o : Outer) → OtherBodies (Thins Squeezes) p q → SameShown p q o
marked_shown p q o h = squeezed_shown p q o (others_weaker (Thins Squeezes) (Thins (λ k fs b. IsSqueezing fs b)) weaker p q h)

-- ---- typings

module _ (p : NamedProgram) (above : IsTransitive p) (typed : IsTyped p) where
  new_typed : (c : NamedClass) (m : NamedMethod) (b : NamedBody) → Contains p.classes c → Contains c.methods m → Thins Squeezes (key_in c m) m.body (Some b) → (t : Table) × IsTyping p c m b t
  new_typed c m b i j h = by m.body (Some b) refl refl h
    where
      by : (x y : Option NamedBody) → m.body ≡ x → Some b ≡ y → Thins Squeezes (key_in c m) x y → (t : Table) × IsTyping p c m b t
      by _ _ e d NoCode = absurd (true≢false (ap (λ o. elim o as (λ o. Bool) [ Some z ↦ true | None ↦ false ]) d))
      by _ _ e d (Same a) = subst (λ z. (t : Table) × IsTyping p c m z t) (sym (some_same b a d)) (typed.bodies c m a i j e)
      by _ _ e d (Thinned fs a r) = let t = typed.bodies c m a i j e in
          subst (λ z. (t : Table) × IsTyping p c m z t) (sym (some_same b (thinned fs a) d)) (squeezed_table r.0 fs t.0, squeezed_typing p above c m a t.0 t.1 r.0 fs r.1)

  pub marked_typed : (q : NamedProgram) → OtherBodies (Thins Squeezes) p q → IsTyped q
  marked_typed q h = others_typed (Thins Squeezes) p q h new_typed
