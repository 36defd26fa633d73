-- The rows of steps from the positions of a body.
use Rattle.std.proofs.Common.{◌≡◌, ℕ, suc, ◌+◌, ◌<◌, ◌≤◌, List, [], ◌∷◌, ◌++◌, length, drop, get_or, Some, None, Option, refl, sym, ap, ◌∙◌, subst, arith, append_assoc, ◌⊎◌, inl, inr}
use Rattle.std.specs.Prelude.{slice_get, slice_index_or, Contains}
use Rattle.std.proofs.lemmas.Bool.{cases_eq, cases_lt}
use Rattle.std.proofs.lemmas.List.{length_push, get_or_append_left, get_or_push, get_or_past, drop_at}
use Rattle.std.proofs.lemmas.Option.{slice_get_past}
use Rattle.insn_set.specs.declared.form.Insn.{Insn}
use Rattle.program_model.specs.declared.body.Body.{Body}
use Rattle.flow_cfg.specs.Walks.{next_of, thrown_to, successors_of}
use Rattle.insn_set.specs.Flow.{targets_of}
use Rattle.walk_marks.specs.Walks.{row_of}
use Rattle.body_graph.specs.Walks.{insn_at, onward, caught}
use Rattle.copy_prop.specs.Searches.{AreRows, onward_from, caught_from}

-- one row more
push_row : (P : ℕ → List ℕ) (rows : List (List ℕ)) (row : List ℕ) (k n : ℕ) → length rows ≡ k → ((n : ℕ) → n < k → row_of rows n ≡ P n) → row ≡ P k → n < k + 1 → row_of (rows ++ row ∷ []) n ≡ P n
push_row P rows row k n long are is lt = at (cases_eq n k)
  where
    at : (n ≡ k) ⊎ (n ≡ k → ⊥) → row_of (rows ++ row ∷ []) n ≡ P n
    at (inl e) = get_or_push rows row [] n (long ∙ sym e) ∙ is ∙ ap P (sym e)
    at (inr ne) = let below : n < k = omega arith in get_or_append_left rows (row ∷ []) [] n (omega (arith, long)) ∙ are n below

-- what goes on, and then what is caught
pub steps_split : (b : Body) (n : ℕ) (f : Insn) → insn_at b n ≡ Some f → successors_of b n ≡ onward f n ++ caught b f n
steps_split b n f h = rw h refl

pub rows_more : (b : Body) (k : ℕ) (rows fronts backs : List (List ℕ)) (row front back : List ℕ) (f : Insn) → insn_at b k ≡ Some f → row ≡ successors_of b k → front ≡ onward f k → back ≡ drop (length front) row
    → AreRows b k rows fronts backs → AreRows b (k + 1) (rows ++ row ∷ []) (fronts ++ front ∷ []) (backs ++ back ∷ [])
rows_more b k rows fronts backs row front back f there is goes left was = record {
  rows_long = length_push rows row ∙ ap (λ n. n + 1) was.rows_long;
  fronts_long = length_push fronts front ∙ ap (λ n. n + 1) was.fronts_long;
  backs_long = length_push backs back ∙ ap (λ n. n + 1) was.backs_long;
  rows_are = λ n lt. push_row (λ n. successors_of b n) rows row k n was.rows_long was.rows_are is lt;
  fronts_are = λ n lt. push_row (λ n. onward_from (insn_at b n) n) fronts front k n was.fronts_long was.fronts_are (goes ∙ ap (λ o. onward_from o k) (sym there)) lt;
  backs_are = λ n lt. push_row (λ n. caught_from b (insn_at b n) n) backs back k n was.backs_long was.backs_are (behind ∙ ap (λ o. caught_from b o k) (sym there)) lt;
}
  where
    whole : row ≡ front ++ caught b f k
    whole = is ∙ steps_split b k f there ∙ ap (λ xs. xs ++ caught b f k) (sym goes)

    behind : back ≡ caught b f k
    behind = left ∙ ap (drop (length front)) whole ∙ drop_at front (caught b f k) (length front) refl

-- the same for rows that were pushed
pub rows_pushed : (b : Body) (k count : ℕ) (rows fronts backs rows' fronts' backs' : List (List ℕ)) (row front back goes : List ℕ) (f : Insn) → insn_at b k ≡ Some f → row ≡ successors_of b k → front ≡ onward f k → goes ≡ front → count ≡ length goes → back ≡ drop count row
    → AreRows b k rows fronts backs → rows' ≡ rows ++ row ∷ [] → fronts' ≡ fronts ++ front ∷ [] → backs' ≡ backs ++ back ∷ [] → AreRows b (k + 1) rows' fronts' backs'
rows_pushed b k count rows fronts backs rows' fronts' backs' row front back goes f there is on same counted left was e1 e2 e3 =
    rw (e1, e2, e3) (rows_more b k rows fronts backs row front back f there is on (left ∙ ap (λ n. drop n row) (counted ∙ ap length same)) was)

-- no step leaves what is no position
pub none_past : (b : Body) (n : ℕ) → length b.insns ≤ n → successors_of b n ≡ []
none_past b n le = rw (slice_get_past b.insns n le) refl

module _ (b : Body) (rows fronts backs : List (List ℕ)) (are : AreRows b (length b.insns) rows fronts backs) where
  pub row_is : (n : ℕ) → row_of rows n ≡ successors_of b n
  row_is n = at (cases_lt n (length b.insns))
    where
      at : (n < length b.insns) ⊎ (length b.insns ≤ n) → row_of rows n ≡ successors_of b n
      at (inl lt) = are.rows_are n lt
      at (inr le) = get_or_past rows n [] (omega (arith, are.rows_long)) ∙ sym (none_past b n le)

  pub to_step : (n m : ℕ) → Contains (row_of rows n) m → Contains (successors_of b n) m
  to_step n m = let P : List ℕ → Type 0 = λ xs. Contains xs m in subst P (row_is n)

  pub from_step : (n m : ℕ) → Contains (successors_of b n) m → Contains (row_of rows n) m
  from_step n m = let P : List ℕ → Type 0 = λ xs. Contains xs m in subst P (sym (row_is n))
