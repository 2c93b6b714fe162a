use Rattle.std.proofs.Common.{◌≡◌, []}
use Rattle.rust_tree.specs.Text.{text}
use Rattle.wit_commands.specs.Made.{only_bytes}
use Rattle.wit_commands.proofs.Causes.{fresh_file}
use Rattle.wit_commands.proofs.made.generated.Goals as goal

pub returns-clause-file : goal.returns-clause-file
returns-clause-file c =
    let fresh : c.new-files.result ≡ [] = c.new-files.ensures in
    let file : only_bytes c.generate.new.files ≡ text c.in_ok-tree.tree = fresh_file fresh c.in_ok-tree.ensures.ok.gains in
    file
