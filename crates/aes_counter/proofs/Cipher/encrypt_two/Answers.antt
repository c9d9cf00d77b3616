-- What is known of each of the two is taken by its place: every second call is the other's.
use Rattle.block.specs.Block.{bytes_of}
use Rattle.aes_key.specs.Words.{words_bytes}
use Rattle.aes_counter.specs.StartLaws.{rounds-left}
use Rattle.aes_counter.proofs.Cipher.encrypt_two.Goals as goal

pub returns : goal.returns
returns c =
    let w = c.args.self.now.key.words in
    let W = words_bytes 44 w in record {
      result_value = rounds-left W (bytes_of (record { 0 = c.args.c; 1 = 0 })) c.start-s.result c.round-s3.result c.round-s4.result
          c.round-s5.result c.round-s6.result c.round-s7.result c.round-s8.result c.round-s9.result c.last_round.result c.from.result
          c.start-s.ensures c.round-s3.ensures c.round-s4.ensures c.round-s5.ensures c.round-s6.ensures
          c.round-s7.ensures c.round-s8.ensures c.round-s9.ensures c.last_round.ensures c.from.ensures;
      result_value_2 = rounds-left W (bytes_of (record { 0 = c.args.d; 1 = 0 })) c.start-r.result c.round-r3.result c.round-r4.result
          c.round-r5.result c.round-r6.result c.round-r7.result c.round-r8.result c.round-r9.result
          c.last_round-2.result c.from-2.result c.start-r.ensures c.round-r3.ensures c.round-r4.ensures
          c.round-r5.ensures c.round-r6.ensures c.round-r7.ensures c.round-r8.ensures c.round-r9.ensures
          c.last_round-2.ensures c.from-2.ensures;
    }
