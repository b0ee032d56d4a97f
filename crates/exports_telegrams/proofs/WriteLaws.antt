-- A call of the writer: a data telegram by the byte of its function code, `coded_of_lem`.
use Rattle.std.proofs.Common.{None, Option, Some}
use mathlib.Core.List.{List}
use mathlib.Core.Path.{◌≡◌, ◌∙◌}
use Prim.Native.Nat.{ℕ}
use lib.ListN.{length}
use Rattle.ground.specs.Refusals.{OrRefused}
use Rattle.telegram_tx.specs.Writing.{write_found, buffer_found}
use Rattle.telegram_tx.specs.declared.tx.TelegramTxResponse.{TelegramTxResponse}
use Rattle.exports_telegrams.specs.Leaves.{coded_header}
use Rattle.exports_telegrams.specs.Write.{WriteCall, write_call, coded_call}
use Rattle.codes.specs.declared.function_code.FunctionCode.{FunctionCode}

-- what was told of the answer to a header with a byte is told of the calls promised, whatever the byte is read as
pub coded_of_lem :
    (found : Option FunctionCode) (da sa dsap ssap code : ℕ) (pdu told buf : List ℕ)
    {c : WriteCall} {x : OrRefused TelegramTxResponse} {b : List ℕ}
    → x ≡ write_found found (coded_header da sa dsap ssap code) pdu (length buf)
    → b ≡ buffer_found found (coded_header da sa dsap ssap code) pdu buf
    → c ≡ write_call x told b
    → c ≡ coded_call found da sa dsap ssap pdu told buf
coded_of_lem (Some fc) da sa dsap ssap code pdu told buf e f g = g ∙ (λ i. write_call (e i) told (f i))
coded_of_lem None da sa dsap ssap code pdu told buf e f g = g ∙ (λ i. write_call (e i) told (f i))
