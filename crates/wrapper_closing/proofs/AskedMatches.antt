-- A match names what the blocks do that became its arms.
use Rattle.std.proofs.Common.{◌≡◌, ℕ, suc, Bool, true, List, [], ◌∷◌, ◌++◌, length, map, None, Some, sym, ap}
use Rattle.std.specs.List.{AllByRecursion, flat_map, list_all}
use Rattle.std.proofs.lemmas.Bool.{and_parts}
use Rattle.std.proofs.lemmas.Grind.{flat_map-append}
use Rattle.wit_model.specs.Bytes.{Bytes}
use Rattle.rust_tree.specs.declared.path.Path.{Path}
use Rattle.rust_tree.specs.declared.pattern.ArmPattern.{ArmPattern}
use Rattle.rust_tree.specs.declared.pattern.ArmPattern.TheVariants as arm
use Rattle.rust_tree.specs.declared.runtime_item.RuntimeItem.{RuntimeItem}
use Rattle.rust_tree.specs.declared.stmt.Arm.{Arm}
use Rattle.rust_tree.specs.declared.stmt.Block.{Block}
use Rattle.rust_tree.specs.declared.stmt.Stmt.{Stmt}
use Rattle.rust_tree.specs.declared.stmt.Stmt.TheVariants as stmt
use Rattle.rust_tree.specs.Asked.{asked_by_arm, asked_by_block, asked_by_expr, asked_by_stmt, asked_by_tail}
use Rattle.wrapper_run.specs.Code.{code_of}
use Rattle.func_gen.specs.declared.function_bindgen.FinishedBlock.{FinishedBlock}
use Rattle.func_gen.specs.declared.operand.ExprOperand.{ExprOperand}
use Rattle.func_gen.specs.LiftedCases.{are_few, case_expr, freed_body, is_liftable, is_unit, last_body, lifted_bodies, number_arms, numbered_arms}
use Rattle.func_gen.specs.MatchForms.{arm_of, case_path, case_pattern, lowered_arms, lowered_body, tail_of}
use Rattle.func_gen.specs.PartForms.{exprs_of}
use Rattle.wrapper_closing.proofs.AskedForms.{arguments_named, arm_named, code_named, exprs_named, stmts_named, tail_named}
use Rattle.wrapper_closing.proofs.Within.{Within, within_both, within_from, within_left, within_none, within_pairs, within_right, within_self, within_then, within_to}

-- what operands name, and what a finished block does
abbrev pub operands_named : List ExprOperand → List RuntimeItem
operands_named os = exprs_named (exprs_of os)

abbrev pub block_named : FinishedBlock → List RuntimeItem
block_named b = stmts_named b.stmts ++ operands_named b.results

abbrev pub blocks_named : List FinishedBlock → List RuntimeItem
blocks_named blocks = flat_map block_named blocks

abbrev arms_named : List Arm → List RuntimeItem
arms_named arms = flat_map asked_by_arm arms

abbrev bodies_named : List Block → List RuntimeItem
bodies_named bodies = flat_map asked_by_block bodies

-- 1. Cases that are lowered

lowered_block : (b : FinishedBlock) → Within (block_named b) (asked_by_block (lowered_body b))
lowered_block b =
    let tail = tail_of (exprs_of b.results) in
    within_to (stmts_named b.stmts ++ asked_by_tail tail) (asked_by_block (lowered_body b)) (sym (code_named b.stmts tail))
    (within_pairs (stmts_named b.stmts) (operands_named b.results) (stmts_named b.stmts) (asked_by_tail tail) (within_self (stmts_named b.stmts)) (tail_named (exprs_of b.results)))

pub lowered_named : (cases : _) (blocks : List FinishedBlock) → length blocks ≡ length cases → Within (blocks_named blocks) (arms_named (lowered_arms cases blocks))
lowered_named [] [] h = within_none []
lowered_named [] (b ∷ blocks) h = absurd (let no = h in cc)
lowered_named (c ∷ cases) [] h = absurd (let no = h in cc)
lowered_named (c ∷ cases) (b ∷ blocks) h =
    let one = arm_of (case_pattern c b.number) (lowered_body b) in
    within_pairs (block_named b) (blocks_named blocks) (asked_by_arm one) (arms_named (lowered_arms cases blocks))
    (within_then (lowered_block b) (arm_named (case_pattern c b.number) (lowered_body b))) (lowered_named cases blocks (let same = h in cc))

-- 2. Cases that are made

-- the payload, where there is one
payload_named : (unit : Bool) (path : Path) (os : List ExprOperand) → are_few os ≡ true → Within (operands_named os) (asked_by_expr (case_expr unit path (exprs_of os)))
payload_named unit path [] few = within_none (asked_by_expr (case_expr unit path []))
payload_named unit path (o ∷ []) few = arguments_named path (o.expr ∷ [])
payload_named unit path (o ∷ p ∷ os) few = absurd (let no = few in cc)

-- the case of what a block gives, behind its statements and perhaps others
case_named : (c : _) (stmts : List Stmt) (b : FinishedBlock) → is_liftable b ≡ true → Within (stmts_named b.stmts) (stmts_named stmts) → Within (block_named b) (asked_by_block (code_of stmts (Some (case_expr (is_unit c) (case_path c) (exprs_of b.results)))))
case_named c stmts b few h =
    let e = case_expr (is_unit c) (case_path c) (exprs_of b.results) in
    within_to (stmts_named stmts ++ asked_by_expr e) (asked_by_block (code_of stmts (Some e))) (sym (code_named stmts (Some e)))
    (within_pairs (stmts_named b.stmts) (operands_named b.results) (stmts_named stmts) (asked_by_expr e) h (payload_named (is_unit c) (case_path c) b.results few))

lifted_named : (cases : _) (blocks : List FinishedBlock) → length blocks ≡ length cases → list_all is_liftable blocks ≡ true → Within (blocks_named blocks) (bodies_named (lifted_bodies cases blocks))
lifted_named [] [] h few = within_none []
lifted_named [] (b ∷ blocks) h few = absurd (let no = h in cc)
lifted_named (c ∷ cases) [] h few = absurd (let no = h in cc)
lifted_named (c ∷ cases) (b ∷ blocks) h few =
    let two = and_parts (is_liftable b) (list_all is_liftable blocks) few in
    within_pairs (block_named b) (blocks_named blocks) _ (bodies_named (lifted_bodies cases blocks)) (case_named c b.stmts b two.0 (within_self (stmts_named b.stmts))) (lifted_named cases blocks (let same = h in cc) two.1)

last_named : (n : Bytes) (k : ℕ) (c : _) (b : FinishedBlock) → is_liftable b ≡ true → Within (block_named b) (asked_by_block (last_body n k c b))
last_named n k c b few = case_named c (stmt.AssertLast n k ∷ b.stmts) b few (within_right (asked_by_stmt (stmt.AssertLast n k)) (stmts_named b.stmts) (within_self (stmts_named b.stmts)))

-- 3. Blocks that free

freed_block : (b : FinishedBlock) → b.results ≡ [] → Within (block_named b) (asked_by_block (freed_body b))
freed_block b none =
    within_to (stmts_named b.stmts ++ []) (asked_by_block (freed_body b)) (sym (code_named b.stmts None))
    (within_pairs (stmts_named b.stmts) (operands_named b.results) (stmts_named b.stmts) [] (within_self (stmts_named b.stmts)) (within_from (operands_named b.results) [] (ap operands_named none) (within_none [])))

freed_named : (blocks : List FinishedBlock) → AllByRecursion (λ (b : FinishedBlock). b.results ≡ []) blocks → Within (blocks_named blocks) (bodies_named (map freed_body blocks))
freed_named [] none = within_none []
freed_named (b ∷ blocks) none = within_pairs (block_named b) (blocks_named blocks) (asked_by_block (freed_body b)) (bodies_named (map freed_body blocks)) (freed_block b none.0) (freed_named blocks none.1)

-- 4. Arms by numbers

numbers_named : (k : ℕ) (bodies : List Block) → Within (bodies_named bodies) (arms_named (numbered_arms k bodies))
numbers_named k [] = within_none []
numbers_named k (b ∷ bodies) = within_pairs (asked_by_block b) (bodies_named bodies) (asked_by_arm (arm_of (arm.Number k) b)) (arms_named (numbered_arms (suc k) bodies)) (arm_named (arm.Number k) b) (numbers_named (suc k) bodies)

-- and another arm behind them
number_arms_named : (bodies : List Block) (p : ArmPattern) (last : Block) → Within (bodies_named bodies ++ asked_by_block last) (arms_named (number_arms 0 bodies (arm_of p last)))
number_arms_named bodies p last =
    let other = arm_of p last in
    within_to (arms_named (numbered_arms 0 bodies) ++ arms_named (other ∷ [])) (arms_named (number_arms 0 bodies other)) (sym (flat_map-append asked_by_arm (numbered_arms 0 bodies) (other ∷ [])))
    (within_pairs (bodies_named bodies) (asked_by_block last) (arms_named (numbered_arms 0 bodies)) (arms_named (other ∷ [])) (numbers_named 0 bodies) (within_left (asked_by_arm other) [] (arm_named p last)))

-- blocks of which the last one became another arm
behind_named : (first : List FinishedBlock) (last : FinishedBlock) (bodies : List Block) (p : ArmPattern) (other : Block) → Within (blocks_named first) (bodies_named bodies) → Within (block_named last) (asked_by_block other)
    → Within (blocks_named (first ++ last ∷ [])) (arms_named (number_arms 0 bodies (arm_of p other)))
behind_named first last bodies p other f g =
    within_from (blocks_named (first ++ last ∷ [])) (blocks_named first ++ blocks_named (last ∷ [])) (flat_map-append block_named first (last ∷ []))
    (within_then (within_pairs (blocks_named first) (blocks_named (last ∷ [])) (bodies_named bodies) (asked_by_block other) f (within_both (block_named last) [] g (within_none (asked_by_block other)))) (number_arms_named bodies p other))

-- 5. The arms of each kind of match

pub lifts_named : (cases : _) (blocks : List FinishedBlock) (p : ArmPattern) (other : Block) → length blocks ≡ length cases → list_all is_liftable blocks ≡ true → Within (blocks_named blocks) (arms_named (number_arms 0 (lifted_bodies cases blocks) (arm_of p other)))
lifts_named cases blocks p other many few = within_then (within_left (bodies_named (lifted_bodies cases blocks)) (asked_by_block other) (lifted_named cases blocks many few)) (number_arms_named (lifted_bodies cases blocks) p other)

-- the arm behind the others names what its block does
pub other_named : (bodies : List Block) (p : ArmPattern) (other : Block) → Within (asked_by_block other) (arms_named (number_arms 0 bodies (arm_of p other)))
other_named bodies p other = within_then (within_right (bodies_named bodies) (asked_by_block other) (within_self (asked_by_block other))) (number_arms_named bodies p other)

pub lifts_last_named : (cases : _) (c : _) (n : Bytes) (first : List FinishedBlock) (last : FinishedBlock) → length first ≡ length cases → list_all is_liftable first ≡ true → is_liftable last ≡ true
    → Within (blocks_named (first ++ last ∷ [])) (arms_named (number_arms 0 (lifted_bodies cases first) (arm_of (arm.Name n) (last_body n (length cases) c last))))
lifts_last_named cases c n first last many few few_last =
    behind_named first last (lifted_bodies cases first) (arm.Name n) (last_body n (length cases) c last) (lifted_named cases first many few) (last_named n (length cases) c last few_last)

pub frees_named : (first : List FinishedBlock) (last : FinishedBlock) → AllByRecursion (λ (b : FinishedBlock). b.results ≡ []) first → last.results ≡ []
    → Within (blocks_named (first ++ last ∷ [])) (arms_named (number_arms 0 (map freed_body first) (arm_of arm.AnyOther (freed_body last))))
frees_named first last none none_last = behind_named first last (map freed_body first) arm.AnyOther (freed_body last) (freed_named first none) (freed_block last none_last)
