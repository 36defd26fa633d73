-- A body whose instructions name other registers has the same paths.
use Rattle.std.proofs.Common.{◌≡◌, ◌≤◌, inl, inr, ℕ, zero, suc, [], length, nat_eq, Option, Some, None, refl, sym, ap, ap₂, ◌∙◌, subst}
use Rattle.std.specs.Prelude.{if◌then◌else◌}
use Rattle.std.specs.List.{list_any}
use Rattle.std.proofs.lemmas.Bool.{cases_lt}
use Rattle.insn_set.specs.Flow.{throws}
use Rattle.insn_set.specs.declared.form.Insn.{Insn}
use Rattle.insn_set.specs.declared.form.Insn.TheVariants as insn
use Rattle.program_model.specs.declared.body.Body.{Body}
use Rattle.flow_cfg.specs.Walks.{handlers_at}
use Rattle.insn_regs.specs.Remade.{remade}
use Rattle.body_graph.specs.Walks.{insn_at, onward, caught}
use Rattle.body_graph.proofs.Members.{get_past, get_some}
use Rattle.moves_law.specs.Paths.{leaving, one_step, joined, or_else, between, path_to}
use Rattle.moves_law.proofs.Lists.{no_some}

-- each instruction of the second body is the one of the first with other registers
pub record Renames (b d : Body) : Type 0 where
  pub read : ℕ → ℕ → ℕ
  pub written : ℕ → ℕ → ℕ
  pub long : length d.insns ≡ length b.insns
  pub regions : d.regions ≡ b.regions
  pub insns : (n : ℕ) (f : Insn) → insn_at b n ≡ Some f → insn_at d n ≡ Some (remade (read n) (written n) f)

module _ (r w : ℕ → ℕ) where
  same_onward : (f : Insn) (n : ℕ) → onward (remade r w f) n ≡ onward f n
  same_onward insn.Nop n = refl
  same_onward f n = refl

  same_throws : (f : Insn) → throws (remade r w f) ≡ throws f
  same_throws insn.Nop = refl
  same_throws f = refl

module _ (b d : Body) (x : Renames b d) where
  same_caught : (r w : ℕ → ℕ) (f : Insn) (n : ℕ) → caught d (remade r w f) n ≡ caught b f n
  same_caught r w f n = ap₂ (λ t rs. if t then handlers_at rs n else []) (same_throws r w f) x.regions

  pub nothing : (n : ℕ) → insn_at b n ≡ None → insn_at d n ≡ None
  nothing n e = elim (cases_lt n (length b.insns)) [
    | inl lt ↦ (let u = get_some b.insns n lt in no_some u.0 (sym e ∙ u.1))
    | inr past ↦ get_past d.insns n (subst (λ k. k ≤ n) (sym x.long) past)
  ]

  same_step : (m n : ℕ) → one_step d m n (insn_at d m) ≡ one_step b m n (insn_at b m)
  same_step m n = by (insn_at b m) refl
    where
      by : (o : Option Insn) → insn_at b m ≡ o → one_step d m n (insn_at d m) ≡ one_step b m n o
      by None e = ap (one_step d m n) (nothing m e)
      by (Some f) e =
          ap (one_step d m n) (x.insns m f e)
          ∙ ap₂ (λ u v. leaving m (list_any (nat_eq n) u) (list_any (nat_eq n) v)) (same_onward (x.read m) (x.written m) f m) (same_caught (x.read m) (x.written m) f m)

  same_between : (k m n : ℕ) → between d k m n ≡ between b k m n
  same_between zero m n = same_step m n
  same_between (suc k) m n = ap₂ or_else (same_between k m n) (ap₂ joined (same_between k m k) (same_between k k n))

  pub same_path : (n : ℕ) → path_to d n ≡ path_to b n
  same_path zero = refl
  same_path (suc n) = ap (λ k. between d k 0 (suc n)) x.long ∙ same_between (length b.insns) 0 (suc n)
