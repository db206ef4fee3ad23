-- The texts of notices.
use Rattle.std.specs.Prelude.{ℕ, List, codes}
use Rattle.dns_handle.specs.declared.notice.Notice.{Notice}
use Rattle.dns_handle.specs.declared.notice.Notice.TheVariants.{NoQueryInRequest, ExpiredRrsig, WrongDnskey, WrongRrsig, ExceededMaxValidationDepth, ExceededMaxNestedQueries, IdSpaceExhausted, SendQueueFull, PolledAfterCompletion, NotAllBytesSent, TransferHasTrailingRecords, TransferIsIncremental, HistoryFull}

abbrev pub notice_text : Notice → List ℕ
notice_text NoQueryInRequest = codes "no query in request"
notice_text ExpiredRrsig = codes "ExpiredRrsig"
notice_text WrongDnskey = codes "WrongDnskey"
notice_text WrongRrsig = codes "WrongRrsig"
notice_text ExceededMaxValidationDepth = codes "exceeded max validation depth"
notice_text ExceededMaxNestedQueries = codes "exceeded max nested queries"
notice_text IdSpaceExhausted = codes "id space exhausted, consider filing an issue"
notice_text SendQueueFull = codes "send queue full"
notice_text PolledAfterCompletion = codes "polled after completion"
notice_text NotAllBytesSent = codes "not all bytes of message sent"
notice_text TransferHasTrailingRecords = codes "invalid zone transfer, contains trailing records"
notice_text TransferIsIncremental = codes "invalid zone transfer, expected AXFR, got IXFR"
notice_text HistoryFull = codes "history full"
