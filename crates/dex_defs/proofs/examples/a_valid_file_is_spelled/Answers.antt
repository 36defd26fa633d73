use Rattle.dex_defs.proofs.examples.a_valid_file_is_spelled.Goals as goal

pub returns : goal.returns
returns c = λ bytes file. file.valid.spelled
