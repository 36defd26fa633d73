-- Whether the lists of handlers of a body have room (Dalvik executable format, "try_item": 16 bits say where a list begins).
use Rattle.std.specs.Prelude.{ℕ, ◌+◌, min, max, Bool, nat_le, List, [], ◌∷◌, length, map}
use Rattle.code_write.specs.Handlers.{handlers_text}
use Rattle.code_write.specs.Lists.{all_lists, count_text}
use Rattle.program_model.specs.declared.body.Region.{Region}
use Rattle.program_model.specs.declared.pass.Renumber.{Renumber}

-- each different list once, as it is written, where the positions begin at these units and the code ends at this one
abbrev pub different_lists : Renumber → List ℕ → ℕ → List Region → List (List ℕ)
different_lists numbers starts end regions = all_lists [] (map (handlers_text numbers starts end) regions)

-- how many bytes the lists have without the longest one, where one of so many bytes stands among them
abbrev pub bytes_before : ℕ → List (List ℕ) → ℕ
bytes_before longest [] = 0
bytes_before longest (x ∷ xs) = min longest (length x) + bytes_before (max longest (length x)) xs

-- The longest list stands last. It begins behind the count and all others, at most 65,535 bytes behind the count's first one.
abbrev pub have_room : List (List ℕ) → Bool
have_room lists = nat_le (length (count_text lists) + bytes_before 0 lists) 65535

abbrev pub lists_fit : Renumber → List ℕ → ℕ → List Region → Bool
lists_fit numbers starts end regions = have_room (different_lists numbers starts end regions)
