-- The class_defs stand where their words do.
use Rattle.std.proofs.Common.{◌≡◌, ◌+◌, ◌*◌, ℕ, suc, List, [], ◌∷◌, ◌++◌, length, subst, arith}
use Rattle.dex_base.specs.Word.{Is32}
use Rattle.dex_base.specs.Decides.{Each}
use Rattle.dex_pools.specs.Written.{renumbered}
use Rattle.program_model.specs.declared.pass.Renumber.{Renumber}
use Rattle.program_model.specs.declared.program.Class.{Class}
use Rattle.dex_write.specs.declared.tables.ClassOffsets.{ClassOffsets}
use Rattle.dex_write.specs.Numbers.{words, at_place}
use Rattle.dex_write.specs.Plans.{Plan}
use Rattle.dex_write.specs.Tables.{source_word, class_row, class_words}
use Rattle.dex_defs.specs.ClassDefs.{Def, IsDef}
use Rattle.dex_defs.specs.Here.{Here}
use Rattle.write_laws.specs.Listing.{def_of}
use Rattle.write_laws.proofs.Here.{here_left, here_right, here_is, here_same}
use Rattle.write_laws.proofs.Numbers.{Few, here_words, words_append, words_length}

abbrev pub defs_of : Renumber → ClassOffsets → ℕ → List Plan → List Def
defs_of r offsets place [] = []
defs_of r offsets place (plan ∷ plans) = def_of r plan.class offsets place ∷ defs_of r offsets (suc place) plans

-- each number of each class fits 32 bits
abbrev pub FewDefs : Renumber → ClassOffsets → ℕ → List Plan → Type 0
FewDefs r offsets place [] = Unit {0}
FewDefs r offsets place (plan ∷ plans) = Few (class_row r plan.class offsets place) × FewDefs r offsets (suc place) plans

one_def : (bytes : List ℕ) (at : ℕ) (r : Renumber) (c : Class) (offsets : ClassOffsets) (place : ℕ) → Few (class_row r c offsets place) → Here bytes at (words (class_row r c offsets place)) → IsDef bytes at (def_of r c offsets place)
one_def bytes at r c offsets place few h =
    let e = (here_words bytes at (class_row r c offsets place) few h).1 in
    let begin : at + 4 * 0 ≡ at = omega arith in
    record {
      name = subst (λ n. Is32 bytes n (renumbered r.types.items c.name)) begin e.0;
      flags = e.1.0;
      superclass = e.1.1.0;
      interfaces = e.1.1.1.0;
      source = e.1.1.1.1.0;
      annotations = e.1.1.1.1.1.0;
      data_at = e.1.1.1.1.1.1.0;
      values = e.1.1.1.1.1.1.1.0;
    }

pub defs_stand : (bytes : List ℕ) (at k : ℕ) (r : Renumber) (offsets : ClassOffsets) (place : ℕ) (plans : List Plan) → FewDefs r offsets place plans → Here bytes (at + 32 * k) (words (class_words r offsets place plans)) → Each (λ i d. IsDef bytes (at + 32 * i) d) k (defs_of r offsets place plans)
defs_stand bytes at k r offsets place [] few h = tt
defs_stand bytes at k r offsets place (plan ∷ plans) few h =
    let row : List ℕ = class_row r plan.class offsets place in
    let rest : List ℕ = class_words r offsets (suc place) plans in
    let both : Here bytes (at + 32 * k) (words row ++ words rest) = here_same bytes (at + 32 * k) _ _ (words_append row rest) h in (
      one_def bytes (at + 32 * k) r plan.class offsets place few.0 (here_left bytes (at + 32 * k) (words row) (words rest) both),
      defs_stand bytes at (suc k) r offsets (suc place) plans few.1 (here_is bytes (at + 32 * k + length (words row)) (at + 32 * suc k) (words rest) (omega (arith, words_length row)) (here_right bytes (at + 32 * k) (words row) (words rest) both)),
    )
