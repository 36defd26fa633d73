use Rattle.std.proofs.Common.{◌≡◌, true, false}
use Rattle.dalvik_defs.specs.Step.{setting_of}
use Rattle.program_laws.proofs.Standing.{standing_shown, no_calm}
use Rattle.program_laws.proofs.frame_laws.standing_law.Goals as goal

pub returns : goal.returns
returns c = λ p q o related reached reached_other face alike i j. standing_shown p q o (λ f t. false) (λ x y. related x y ≡ true)
    (λ f a script t. reached t ≡ true) (λ f a script t. reached_other t ≡ true) face (λ f a. no_calm (setting_of p o f a)) alike (λ f a script h. (i script, j script))
