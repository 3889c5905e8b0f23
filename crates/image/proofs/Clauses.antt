-- The block of every clause behaves: in every period it says what the clause says on the list that has been read.
use Rattle.contract.specs.Meaning.{Clause, EmptyFree}
use Rattle.image.proofs.Signals.{Signal, WiredClause, wired_literal, wired_deadline, wired_both, wired_then, wired_repair, wired_repeat, wired_when, wired_until}
use Rattle.image.proofs.Threads.{Exclusive, exclusive_hands_over, until_fired, exclusive_until_done}
use Rattle.image.proofs.Behaviour.{Behaves}
use Rattle.image.proofs.Expressions.{reads-alone}
use Rattle.image.proofs.Literals.{behaves_literal}
use Rattle.image.proofs.Deadlines.{behaves_deadline}
use Rattle.image.proofs.Handing.{behaves_then, behaves_repair}
use Rattle.image.proofs.When.{behaves_when}
use Rattle.image.proofs.Both.{behaves_both}
use Rattle.image.proofs.Until.{wired_after_any, behaves_until}
use Rattle.image.proofs.Repeating.{exclusive_repeat, behaves_repeat}

pub behaves : {c : Clause} {S K sat one two : Signal} → EmptyFree c → Exclusive S K → WiredClause c S K sat one two → Behaves c S K sat one two
unfolding EmptyFree
behaves g x (wired_literal e) = behaves_literal e
behaves g x (wired_deadline {q = q} {a = a} {d = d} m w s) = behaves_deadline q a d x m w s
behaves g x (wired_both u l r ml mr s o t d) =
    let y = exclusive_until_done x u in
    behaves_both g x u (behaves g.0 y l) (behaves g.1 y r) ml mr s o t d
behaves g x (wired_then l h r o t) = behaves_then g x (behaves g.0 x l) h (behaves g.1 (exclusive_hands_over h) r) o t
behaves g x (wired_repair l f h r s) = behaves_repair g x (behaves g.0 x l) f h (behaves g.1 (exclusive_hands_over h) r) s
behaves g x (wired_repeat h s c z) = behaves_repeat g x h s (behaves g (exclusive_repeat x h s) c) z
behaves g x (wired_when e h c r s) =
    behaves_when g x (reads-alone (exclusive_until_done x (until_fired h)) e) h (behaves g.1 (exclusive_hands_over h) c) r s
behaves g x (wired_until u r e c s d) =
    let y = exclusive_until_done x u in
    behaves_until g u (reads-alone y (wired_after_any g.1 r e)) (behaves g.0 y c) s d
