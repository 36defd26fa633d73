-- What is stale in a program, and what stays the same where nothing is.
use Rattle.std.proofs.Common.{◌≡◌, ◌⊎◌, inl, inr, ℕ, ◌+◌, ◌<◌, Bool, List, [], ◌∷◌, length, Some, refl, sym, ap, ◌∙◌, subst, arith}
use Rattle.std.specs.Prelude.{slice_get, slice_index_or, All}
use Rattle.std.proofs.lemmas.List.Elements.{All-head}
use Rattle.std.proofs.lemmas.Option.{slice_get_within, slice_get-get_or}
use Rattle.std.proofs.lemmas.Bool.{cases_eq}
use Rattle.program_model.specs.declared.body.Body.{Body}
use Rattle.program_model.specs.declared.program.Program.{Program}
use Rattle.insn_set.specs.declared.form.Insn.{Insn}
use Rattle.insn_regs.specs.Wides.{widths_of}
use Rattle.body_graph.specs.Walks.{insn_at}
use Rattle.copy_prop.specs.Searches.{AreCopies, IsAmong}
use Rattle.copy_prop.specs.Propagated.{AreEach, AreReread, AreSettled, HasSome, HasStale, HasStaleClass, HasStaleRead, IsPropagated, IsPropagatedClass, IsPropagatedProgram, reread_row, row_at}
use Rattle.copy_prop.specs.declared.copied.Copied.{Copied}
use Rattle.copy_prop.proofs.Reread.{body_propagated, insn_within}

-- ---- bodies

module _ (w : List (List Bool)) (b : Body) (table : List (List Copied)) (are : AreCopies w b (length b.insns) table) where
  pub none_stale : ((n : ℕ) → n < length table → row_at table n ≡ []) → IsPropagated w b b
  none_stale none = body_propagated w b b table 0 (length b.insns) refl are same refl refl refl
    where
      empty : (n : ℕ) → n < length b.insns → row_at table n ≡ []
      empty n lt = none n (omega (arith, lt, are.long))

      same : AreReread table (length b.insns) 0 b.insns b.insns
      same = record {
        long = refl;
        done = λ n f lt h. h ∙ ap (λ cs. Some (reread_row cs f)) (sym (empty n lt));
        rest = λ n le. refl;
        none = λ e n lt. empty n lt;
        some = λ lt. absurd (omega (arith, lt));
        few = omega arith;
      }

  pub some_stale : (n : ℕ) × (n < length table) × (row_at table n ≡ [] → ⊥) → HasStaleRead w b
  some_stale s = by (row_at table s.0) refl
    where
      here : (f : Insn) × (insn_at b s.0 ≡ Some f)
      here = insn_within b.insns s.0 (omega (arith, s.1, are.long))

      by : (cs : List Copied) → row_at table s.0 ≡ cs → HasStaleRead w b
      by [] e = absurd (s.2 e)
      by (c ∷ cs) e = record {
        position = s.0;
        stale = record { at = c.at; slot = c.slot; to = c.to; from = c.from; form = here.0; has_form = here.1; by = All-head (IsAmong w b s.0 here.0) c cs (subst (All (IsAmong w b s.0 here.0)) e (are.sound s.0 here.0 here.1)) };
      }

-- ---- lists

-- one item more is as it was
pub one_settled : {A : Type 0} (R : A → A → Type 0) (xs : List A) (i : ℕ) (d x : A) → i < length xs → x ≡ slice_index_or xs i d → AreSettled R i xs → R x x → AreSettled R (i + 1) xs
one_settled {A} R xs i d x lt is before here k y le h = by (cases_eq k i)
  where
    there : slice_get xs i ≡ Some x
    there = slice_get-get_or xs i d lt ∙ ap Some (sym is)

    by : (k ≡ i) ⊎ (k ≡ i → ⊥) → R y y
    by (inl e) =
        let o : Some x ≡ Some y = sym there ∙ ap (slice_get xs) (sym e) ∙ h in
        let same : x ≡ y = cc in
        subst (λ z. R z z) same here
    by (inr ne) = before k y (omega (arith, le, ne)) h

pub each_settled : {A : Type 0} (R : A → A → Type 0) (xs : List A) → AreSettled R (length xs) xs → AreEach R xs xs
each_settled R xs are = record { long = refl; each = λ k x h. (x, h, are k x (slice_get_within xs k x h) h) }

-- ---- programs

module _ (admitted : List Bool) (w shown : List (List Bool)) (p : Program) (are : w ≡ widths_of p) (is : shown ≡ w) where
  pub program_unchanged : AreSettled (IsPropagatedClass shown admitted) (length p.classes) p.classes → IsPropagatedProgram admitted p p
  program_unchanged all = record { rest = refl; classes = subst (λ x. AreEach (IsPropagatedClass x admitted) p.classes p.classes) (is ∙ are) (each_settled (IsPropagatedClass shown admitted) p.classes all) }

  pub program_stale : HasSome (HasStaleClass shown admitted) p.classes → HasStale admitted p
  program_stale some = subst (λ x. HasSome (HasStaleClass x admitted) p.classes) (is ∙ are) some
