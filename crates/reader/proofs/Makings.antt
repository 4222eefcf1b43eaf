-- What a closing bracket makes of what is kept: the record, and its opening bracket.
use mathlib.Core.Path.{◌≡◌, sym, ap, ◌∙◌}
use mathlib.Core.List.{List}
use Prim.Native.Nat.{ℕ, ◌+◌, ◌*◌, ◌≤◌}
use native.Mathlib.Omega.{arith}
use lib.IntN.{ℤ}
use lib.ListN.{length, take, drop}
use lib.Seq.{take_all}
use Rattle.layout.specs.Field.{padded}
use Rattle.record.specs.declared.types.Body.{Body}
use Rattle.record.specs.declared.types.Record.{Record}
use Rattle.reader.specs.declared.types.Head.{Head}
use Rattle.reader.specs.Spaces.{name_of, body_of, record_of, start_of}
use Rattle.reader.specs.Kept.{top_of, deep_of, frames_at, parser_at}

module _ (h : Head) (marks names : List ℕ) (x n : ℕ) (top : x ≡ top_of h) (deep : n ≡ deep_of h) where
  -- the record of the space that closes
  pub made-record : (values : List ℤ) (opens page : List ℕ) (len : ℕ) {y : Body} {b : List ℕ} → len ≡ length (name_of (frames_at marks names x n))
      → name_of (frames_at marks names x n) ≡ drop (128 * x + 1) (take (128 * x + 1 + len) names)
      → y ≡ body_of h.kind h.inner h.entry values len → b ≡ padded 504 (drop (128 * x + 1) (take (128 * x + 1 + len) names))
      → ◌≡◌ {A = Record} (record { own = h.next; body = y; bytes = b }) (record_of (parser_at h values marks names opens page))
  unfolding record_of
  made-record values opens page len e₃ e₄ e₅ e₆ =
      λ i. record {
        own = h.next;
        body = (e₅ ∙ (λ j. body_of h.kind h.inner h.entry values ((e₃ ∙ (λ k. length (name_of (frames_at marks names (top k) (deep k))))) j))) i;
        bytes = (e₆ ∙ ap (padded 504) (sym e₄ ∙ (λ k. name_of (frames_at marks names (top k) (deep k))))) i;
      }

  -- its bracket
  pub made-start : (at : ℕ) → at ≡ start_of (frames_at marks names x n) → at ≡ start_of (frames_at marks names (top_of h) (deep_of h))
  made-start at e = e ∙ (λ k. start_of (frames_at marks names (top k) (deep k)))

  -- the name's length
  pub name-size : (k : ℕ) → k ≡ length (name_of (frames_at marks names x n)) → k ≡ length (name_of (frames_at marks names (top_of h) (deep_of h)))
  name-size k e = e ∙ (λ i. length (name_of (frames_at marks names (top i) (deep i))))
