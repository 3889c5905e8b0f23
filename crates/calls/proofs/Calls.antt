-- How many bytes the replies have. Document 01, "Calls" and "Replies that refuse"; document 02, "Stop reading once it is decided".
use mathlib.Core.Path.{◌≡◌, refl}
use Rattle.records.specs.Replies.{head_size}
use Rattle.calls.specs.Calls.{step_reply_bytes, decide_reply_bytes}

-- begin's has 16 bytes, step's and run's 24, decide's 32
pub reply-bytes : (head_size ≡ 16) × (step_reply_bytes ≡ 24) × (decide_reply_bytes ≡ 32)
reply-bytes = (refl, refl, refl)
