-- Which bodies have a layout (Dalvik executable format, "try_item", "encoded_catch_handler_list"; Dalvik bytecode, "Instruction
-- formats"). A body's layout is the least one; numbers of strings and types are the program's own. The writer takes new numbers, which
-- may be higher in a program whose tables aren't sorted, and a higher number may lengthen an instruction or a list: that a program can be
-- written, LaysOut says of its written program (see Written), not of itself. In a program that was read the tables are sorted, no new number
-- is higher, and lower ones lengthen nothing.
use Rattle.std.specs.Prelude.{◌≡◌, ◌+◌, ◌-◌, ◌≤◌, ℕ, zero, suc, ℤ, pos, negsuc, List, [], ◌∷◌, ◌++◌, length, map, nat_lt, nat_eq, Bool, Option, Some, None, if◌then◌else◌}
use Rattle.std.specs.List.{All, flat_map, list_any}
use Rattle.std.specs.Cmp.Lexicographic.{pointwise}
use Rattle.dex_base.specs.Leb.{uleb_text, sleb_text}
use Rattle.insn_set.specs.Spelling.{units_of}
use Rattle.insn_set.specs.declared.form.Insn.{Insn}
use Rattle.insn_set.specs.declared.form.Insn.TheVariants.{Goto}
use Rattle.relax.specs.declared.step.Step.{Step}
use Rattle.relax.specs.declared.step.Step.TheVariants.{Fixed, Jump}
use Rattle.relax.specs.Sizes.{start, IsLeast}
use Rattle.relax.specs.Far.{first_far}
use Rattle.program_model.specs.declared.body.Handler.{Handler}
use Rattle.program_model.specs.declared.body.Region.{Region}
use Rattle.program_model.specs.declared.body.Body.{Body}
use Rattle.program_model.specs.declared.program.Program.{Program}

-- a goto's target, and the units of every other form
abbrev pub step_of : Insn → Step
step_of (Goto target) = Jump target
step_of insn = Fixed (units_of insn (pos 0))

-- the least sizes of the body's instructions
abbrev pub AreSizes : Body → List ℕ → Type 0
AreSizes body sizes = IsLeast (map step_of body.insns) sizes

-- ---- handler lists as they are written

-- the number of handlers, made negative or zero where a catch-all follows
abbrev pub minus : ℕ → ℤ
minus zero = pos 0
minus (suc n) = negsuc n

abbrev pub size_text : Region → List ℕ
size_text r = elim r.rest [ None ↦ sleb_text (pos (length r.handlers)) | Some rest ↦ sleb_text (minus (length r.handlers)) ]

abbrev pub handler_text : List ℕ → Handler → List ℕ
handler_text sizes h = uleb_text h.kind ++ uleb_text (start sizes h.position)

abbrev pub rest_text : List ℕ → Option ℕ → List ℕ
rest_text sizes None = []
rest_text sizes (Some position) = uleb_text (start sizes position)

abbrev pub catches_text : List ℕ → Region → List ℕ
catches_text sizes r = size_text r ++ flat_map (handler_text sizes) r.handlers ++ rest_text sizes r.rest

abbrev pub is_same : List ℕ → List ℕ → Bool
is_same a b = pointwise nat_eq a b

-- each different text once, at its first use
abbrev pub distinct : List (List ℕ) → List (List ℕ) → List (List ℕ)
distinct before [] = before
distinct before (x ∷ xs) = if list_any (is_same x) before then distinct before xs else distinct (before ++ x ∷ []) xs

-- a text behind all that are no longer
abbrev pub insert : List ℕ → List (List ℕ) → List (List ℕ)
insert x [] = x ∷ []
insert x (y ∷ ys) = if nat_lt (length x) (length y) then x ∷ (y ∷ ys) else y ∷ insert x ys

abbrev pub by_length : List (List ℕ) → List (List ℕ) → List (List ℕ)
by_length sorted [] = sorted
by_length sorted (x ∷ xs) = by_length (insert x sorted) xs

-- the lists in the order in which they are written: those of fewer bytes first, equally long ones by first use
abbrev pub written_lists : List ℕ → List Region → List (List ℕ)
written_lists sizes regions = by_length [] (distinct [] (map (catches_text sizes) regions))

-- where each begins, the first at this place
abbrev pub begins_from : ℕ → List (List ℕ) → List ℕ
begins_from at [] = []
begins_from at (x ∷ xs) = at ∷ begins_from (at + length x) xs

-- where each list begins, in bytes from the count's first one
abbrev pub list_begins : List ℕ → List Region → List ℕ
list_begins sizes regions = let texts = written_lists sizes regions in begins_from (length (uleb_text (length texts))) texts

-- ---- the four points

-- a region's last position begins at most so far behind its first one that 16 bits count the units
abbrev pub IsNear : List ℕ → Region → Type 0
IsNear sizes r = start sizes (r.end - 1) ≤ start sizes r.first + 65534

pub record LaysOutBody (body : Body) : Type 0 where
  pub sizes : List ℕ
  pub least : AreSizes body sizes
  pub branches : first_far sizes 0 body.insns ≡ None
  pub regions : All (IsNear sizes) body.regions
  pub few : length body.regions ≤ 65535
  pub lists : All (λ at. at ≤ 65535) (list_begins sizes body.regions)

abbrev pub LaysOutMethod : Option Body → Type 0
LaysOutMethod None = Unit {0}
LaysOutMethod (Some body) = LaysOutBody body

-- each body lays out
abbrev pub LaysOut : Program → Type 0
LaysOut p = All (λ c. All (λ m. LaysOutMethod m.body) c.methods) p.classes
